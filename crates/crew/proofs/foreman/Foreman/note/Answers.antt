use Rattle.std.proofs.Common.{◌≡◌, ℕ, ◌<◌, false, cond, eqb, List, [], ◌∷◌, length, get_or, set, Some, IfOk, sym, ap, ◌∙◌, subst, arith}
use Rattle.std.proofs.lemmas.Bool.Decides.{nat_tests}
use Rattle.std.proofs.lemmas.Bool.{lt-ltb}
use Rattle.std.proofs.lemmas.Grind.{common_steps}
use Rattle.std.specs.Ordering.{is_le, nat_cmp}
use Rattle.meaning.specs.declared.numbers.Round.{Round}
use Rattle.crew.specs.Foreman as F
use Rattle.crew.specs.Journals as J
use Rattle.crew.specs.Outcomes.{Taken}
use Rattle.crew.specs.Paced.{foreman_of, Gives}
use Rattle.crew.proofs.foreman.Foreman.note.Goals as goal

-- what is not at most a number is above it
above : (a b : ℕ) → is_le (nat_cmp a b) ≡ false → b < a
above a b h = grind (arith, nat_tests)

-- what worker k keeps once worker j keeps x
keeps : (xs : List Round) (j k : ℕ) (x d : Round) → j < length xs → (get_or (set xs j x) k d).0 ≡ cond (eqb k j) x.0 (get_or xs k d).0
keeps xs j k x d h = grind (arith, common_steps)

pub returns : goal.returns
returns c =
    let s = c.args.self in
    let m : ℕ = s.workers in
    let j : ℕ = c.args.line.0 in
    let r : ℕ = c.args.round.0 in
    let f : F.Foreman = foreman_of s in
    let then : ℕ → ℕ = λ k. (get_or (set s.kept c.from.result c.args.round) k s.start).0 in
    let expected : ℕ → ℕ = λ k. cond (eqb k j) r (f.kept k) in
    let kept : then ≡ expected = (λ i k. (get_or (set s.kept (c.from.ensures i) c.args.round) k s.start).0) ∙ λ i k. keeps s.kept j k c.args.round s.start (omega (arith, s.wide, s.many)) i in
    let least : c.least_kept-least.result.0 ≡ F.least_kept m f j r = c.least_kept-least.ensures ∙ ap (F.least_of r m) kept in
    let later : f.noted < F.least_kept m f j r = omega (arith, above c.least_kept-least.result.0 f.noted (sym c.if-le.ensures), least) in
    let noted : F.Reply = record { state = Some (F.with_kept f j r (F.least_kept m f j r)); appends = J.Noted (F.least_kept m f j r) ∷ []; says = []; outcome = Taken } in
    let is : noted ≡ F.notes m f j r = sym (ap (λ b. cond b noted (F.unmoved (F.with_kept f j r f.noted) Taken)) (lt-ltb f.noted (F.least_kept m f j r) later)) in
    let told : (nr : ℕ) → (ℕ → ℕ) → F.Reply =
    λ nr g. record {
      state = Some (record { attempt = f.attempt; start = f.start; at = f.at; ready = f.ready; ending = f.ending; over = f.over; noted = nr; kept = g; quiet = 0 });
      appends = J.Noted nr ∷ [];
      says = [];
      outcome = Taken;
    } in
    subst (λ y. IfOk c.noting.result (Gives m y)) ((λ i. told (least i) (kept i)) ∙ is) c.noting.ensures
