use Rattle.std.proofs.Common.{◌≡◌, ℕ, ◌%◌, ◌^◌, ◌++◌, length, ap, ◌∙◌}
use Rattle.std.specs.List.{flat_map}
use Rattle.meaning.specs.Given.{letters_at}
use Rattle.plans.specs.Digest.{hashed, spelled, digest_of}
use Rattle.plans.specs.Numbers.{be2, be4}
use Rattle.plans.proofs.Adding.{be2_low, be4_low}
use Rattle.plans.proofs.Hashing.{hashed_then}
use Rattle.plans.proofs.digest.digest.Goals as goal

pub returns : goal.returns
unfolding digest_of
returns c =
    let g = c.args.given.now in
    let state = c.args.state.now in
    let ls = letters_at g in
    let start : ℕ = 14695981039346656037 in
    let long : c.to_be_bytes-3.result ≡ be2 (length state) = c.to_be_bytes-3.ensures ∙ be2_low (length state) in
    let many : c.to_be_bytes-4.result ≡ be4 (length ls) = c.to_be_bytes-4.ensures ∙ ap (λ n. be4 (n % 2 ^ 32)) c.letters.ensures ∙ be4_low (length ls) in
    let letters = flat_map spelled ls in
    let counted = be4 (length ls) ++ letters in
    let from-state = state ++ counted in
    let from-length = be2 (length state) ++ from-state in
    let h = c.fnv-h.result in
    let h₂ = c.fnv-h-2.result in
    let h₃ = c.fnv-h-3.result in
    let h₄ = c.fnv-h-4.result in
    let h₅ = c.fnv-h-5.result in
    let r = c.fnv_letters.result in
    hashed_then start h r (be4 g.round.0) (be4 g.place.0 ++ from-length) (c.fnv-h.ensures ∙ ap (hashed start) c.to_be_bytes.ensures)
    (hashed_then h h₂ r (be4 g.place.0) from-length (c.fnv-h-2.ensures ∙ ap (hashed h) c.to_be_bytes-2.ensures)
    (hashed_then h₂ h₃ r (be2 (length state)) from-state (c.fnv-h-3.ensures ∙ ap (hashed h₂) long)
    (hashed_then h₃ h₄ r state counted c.fnv-h-4.ensures
    (hashed_then h₄ h₅ r (be4 (length ls)) letters (c.fnv-h-5.ensures ∙ ap (hashed h₄) many) c.fnv_letters.ensures))))
