use Rattle.std.proofs.Common.{◌≡◌, ◌<◌, List, [], ◌∷◌, ◌++◌, map, length, get_or, set, replicate, vec_items, sym, ap, ◌∙◌, arith}
use Rattle.std.proofs.lemmas.List.FromFn.{get_or-map-range_with_len, length-map-range_with_len}
use Rattle.std.proofs.lemmas.List.{get_or-map, length-map, map-set, map_push, append_assoc, append-nil}
use Rattle.meaning.specs.Left.{letters_left}
use Rattle.meaning.specs.Meaning.{Letter}
use Rattle.meaning.specs.Packets.{letters_of, received_of}
use Rattle.crew.specs.Shared.{owner_of}
use Rattle.batches.specs.Sharing.{part_of, parts_of}
use Rattle.batches.proofs.Sharing.{owner_below, parts_more, parts_none}
use Rattle.batches.proofs.parts.cut.Goals as goal

pub loop-letter-init : goal.loop-letter-init
loop-letter-init c = (
  tt,
  tt,
  (c.in_ok-parts.ensures ∙ ap (λ n. replicate {A = List Letter} n []) (c.from.ensures ∙ c.workers.ensures) ∙ parts_none (owner_of c.args.table.now) c.args.table.now.workers),
  (sym c.iter-letter-items.ensures ∙ ap letters_left (sym c.into_iter-letter-iterator.ensures.into_iter_gives)),
)

pub index_mut-requires : goal.index_mut-requires
index_mut-requires c =
    let table = c.args.table.now in
    let parts = vec_items c.loop-letter.parts in
    let before : List Letter = map received_of c.loop-letter.yielded in
    let long : length parts ≡ table.workers = sym (length-map parts letters_of) ∙ ap length c.loop-letter.invariant.2 ∙ length-map-range_with_len (λ j. part_of (owner_of table) j before) 0 table.workers in
    omega (arith, long, c.loop-letter.parts.ok.0, c.from-owner.ensures, c.owner.ensures, owner_below table c.in-Some.letter.head.to.0)

pub loop-letter-preserved : goal.loop-letter-preserved
loop-letter-preserved c =
    let table = c.args.table.now in
    let owner = owner_of table in
    let m = table.workers in
    let before : List Letter = map received_of c.loop-letter.yielded in
    let x : Letter = received_of c.in-Some.letter in
    let o = c.from-owner.result in
    let inside : o < m = omega (arith, c.from-owner.ensures, c.owner.ensures, owner_below table c.in-Some.letter.head.to.0) in
    let parts = vec_items c.loop-letter.parts in
    let inv = c.loop-letter.invariant in
    let long : length parts ≡ m = sym (length-map parts letters_of) ∙ ap length inv.2 ∙ length-map-range_with_len (λ j. part_of owner j before) 0 m in
    let old : letters_of c.index_mut.result.now ≡ part_of owner o before =
    ap letters_of c.index_mut.ensures.value
    ∙ sym (get_or-map letters_of parts o c.index_mut.result.now [] (omega (arith, inside, long)))
    ∙ ap (λ (ps : List (List Letter)). get_or ps o []) inv.2
    ∙ get_or-map-range_with_len (λ j. part_of owner j before) 0 m o o [] inside (omega arith) in
    let pushed : map received_of (c.loop-letter.yielded ++ c.in-Some.letter ∷ []) ≡ before ++ x ∷ [] = map_push received_of c.loop-letter.yielded c.in-Some.letter in (
      tt,
      tt,
      (map-set letters_of parts o c.push.new.self
          ∙ (λ i. set (inv.2 i) o ((c.in_ok-push.ensures ∙ ap (λ (l : List Letter). l ++ x ∷ []) old) i))
          ∙ parts_more owner m before x o (c.from-owner.ensures ∙ c.owner.ensures) inside
          ∙ ap (parts_of owner m) (sym pushed)),
      (inv.3
          ∙ ap (λ l. before ++ l) c.in-Some.ensures.steps
          ∙ sym (append_assoc before (x ∷ []) (letters_left c.next.new.self))
          ∙ ap (λ l. l ++ letters_left c.next.new.self) (sym pushed)),
    )

pub returns : goal.returns
returns c =
    c.loop-letter.invariant.2
    ∙ ap (parts_of (owner_of c.args.table.now) c.args.table.now.workers)
    (sym (append-nil (map received_of c.loop-letter.yielded)) ∙ ap (λ l. map received_of c.loop-letter.yielded ++ l) (sym c.in-None.ensures.steps.0) ∙ sym c.loop-letter.invariant.3)
