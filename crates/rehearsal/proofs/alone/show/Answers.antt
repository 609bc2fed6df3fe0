use Rattle.std.proofs.Common.{◌≡◌, ◌+◌, ◌++◌, append-nil, subst, sym, ◌∙◌, vec_items, arith}
use Rattle.std.specs.Io.KnownBytes.{Appends, append_known}
use Rattle.script.specs.Output.{head_text, line_text}
use Rattle.rounds.specs.Run.{view_of}
use Rattle.rounds.specs.Sight.{world_of}
use Rattle.rehearsal.specs.Blocks.{contents_of}
use Rattle.rehearsal.specs.Printed.{printed, place_text}
use Rattle.std.proofs.KnownBytes.{Appends-kept, Appends-trans, Keeps-refl, append_known-grown}
use Rattle.rehearsal.proofs.Printing.{place_more, prints_what_is_meant}
use Rattle.rehearsal.proofs.alone.show.Goals as goal
use Rattle.rehearsal.proofs.alone.show.Goals.{in-Some+in_ok-line+in_ok-write_if_block, in_default}

pub loop-v-init : goal.loop-v-init
loop-v-init g c =
    let known = g.W.Write.contents in
    let a = known c.args.out in
    let h = head_text c.args.all.now.round.0 in
    let b = c.in_ok-out.out in
    let line : vec_items c.head.new.out ≡ vec_items b.lines ++ h = c.in_ok-head.ensures.items ∙ (λ i. vec_items b.lines ++ head_text (c.round.ensures i).0) in
    subst (Appends a (append_known (known b.out) (vec_items c.head.new.out))) (sym (append-nil h))
    (append_known-grown a (known b.out) (vec_items b.lines) (vec_items c.head.new.out) h c.in_ok-out.ensures line)

pub loop-v-preserved : goal.loop-v-preserved
loop-v-preserved g c =
    let known = g.W.Write.contents in
    let a = known c.args.out in
    let r = c.args.all.now.round.0 in
    let v = c.loop-v.v in
    let w = world_of (view_of c.args.all.now) in
    let old = known c.loop-v.out.out in
    let lines = vec_items c.loop-v.out.lines in
    elim c.match-state.branch [
      | in-Some+in_ok-line+in_ok-write_if_block b ↦
          let line : vec_items b.line.new.out ≡ lines ++ place_text w v = b.in_ok-line.ensures.items ∙ (λ i. lines ++ line_text v (b.rests.ensures i) (b.in-Some.ensures.1 i)) in
          subst (λ o. Appends a (contents_of known o) (printed (v + 1) r w)) (sym b.out-is)
          (Appends-kept a (append_known old (vec_items b.line.new.out)) (contents_of known b.write_if_block.new.self) (printed (v + 1) r w)
          (subst (Appends a (append_known old (vec_items b.line.new.out))) (place_more r v w)
          (Appends-trans a (append_known old lines) (append_known old (vec_items b.line.new.out)) (printed v r w) (place_text w v) c.loop-v.invariant
          (append_known-grown (append_known old lines) old lines (vec_items b.line.new.out) (place_text w v) (Keeps-refl (append_known old lines)) line)))
          b.in_ok-write_if_block.ensures.kept)
      | in_default b ↦ absurd (omega (arith, b.in_default.ensures, c.loop-v-test.true, c.places-v-end.ensures))
    ]

pub returns-clause-had : goal.returns-clause-had
returns-clause-had g c =
    let known = g.W.Write.contents in
    let a = c.args.all.now in
    let all : c.loop-v.v ≡ a.places = omega (arith, c.loop-v-test.false, c.loop-v.auto.v-end, c.places-v-end.ensures) in
    subst (λ v. Appends (known c.args.out) (known c.in_ok-end.field-0) (printed v a.round.0 (world_of (view_of a)))) all
    (Appends-kept (known c.args.out) (contents_of known c.loop-v.out) (known c.in_ok-end.field-0) (printed c.loop-v.v a.round.0 (world_of (view_of a))) c.loop-v.invariant c.in_ok-end.ensures)

pub returns-clause-meant : goal.returns-clause-meant
returns-clause-meant g c = λ n q stands.
    subst (Appends (g.W.Write.contents c.args.out) (g.W.Write.contents c.in_ok-end.field-0)) (prints_what_is_meant n q c.args.all.now stands) (returns-clause-had g c)
