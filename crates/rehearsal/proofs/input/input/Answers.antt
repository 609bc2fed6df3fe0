use Rattle.std.proofs.Common.{◌≡◌, ◌-◌, ◌<◌, [], ◌++◌, append-nil, take, length, subst, sym, ap, ◌∙◌, vec_items, arith}
use Rattle.std.specs.Io.KnownBytes.{Consumes}
use Rattle.std.proofs.lemmas.List.{with_items_is}
use Rattle.std.proofs.KnownBytes.{Consumes-nil, Consumes-trans, Consumes-all}
use Rattle.rehearsal.proofs.input.input.Goals as goal
use Rattle.rehearsal.proofs.input.input.Goals.{else-loop-test, then-loop-test+in_ok-n+then-n-eq0}

pub loop-init : goal.loop-init
loop-init g c =
    let left = g.R.Read.remaining c.args.from.now in
    (subst (Consumes left left) (sym c.new-text.ensures.items) (Consumes-nil left), omega arith, omega (arith, c.in_ok-block.ensures.len))

pub loop-preserved : goal.loop-preserved
loop-preserved g c =
    let left = g.R.Read.remaining in
    let n = c.in_ok-n.n in
    let buf = c.read.new.buf in
    let whole : c.deref.result.now ≡ buf = c.deref.ensures.value ∙ with_items_is c.loop.block buf (omega (arith, c.read.auto.buf, c.as_mut_slice.ensures.len)) in
    let items : vec_items c.extend_from_slice.new.self ≡ vec_items c.loop.text ++ take n buf =
    c.in_ok-extend_from_slice.ensures.items ∙ (λ i. vec_items c.loop.text ++ take ((let e : n - 0 ≡ n = omega arith in e) i) (whole i)) in (
      subst (Consumes (left c.args.from.now) (left c.read.new.self)) (sym items)
          (Consumes-trans (left c.args.from.now) (left c.loop.from) (left c.read.new.self) (vec_items c.loop.text) (take n buf) c.loop.invariant.0 c.in_ok-n.ensures.bytes.0),
      omega (arith, c.in_ok-extend_from_slice.ensures.len, c.if-n-eq0.false, c.loop.invariant.1),
      c.loop.invariant.2,
    )

pub returns : goal.returns
returns g c =
    let left = g.R.Read.remaining in
    elim c.loop-test.branch [
      | else-loop-test b ↦ absurd (omega (arith, b.loop-test.false, c.loop.invariant.1, c.loop.text.small))
      | then-loop-test+in_ok-n+then-n-eq0 b ↦
          let text = vec_items c.loop.text in
          let last = take b.in_ok-n.n b.read.new.buf in
          let some : 0 < length b.read.new.buf = omega (arith, b.read.auto.buf, c.loop.invariant.2) in
          Consumes-all (left c.args.from.now) (left b.read.new.self) (text ++ last) [] text
          (Consumes-trans (left c.args.from.now) (left c.loop.from) (left b.read.new.self) text last c.loop.invariant.0 b.in_ok-n.ensures.bytes.0)
          (b.in_ok-n.ensures.bytes.1 b.if-n-eq0.true some)
          (sym (append-nil text) ∙ ap (λ n. text ++ take n b.read.new.buf) (sym b.if-n-eq0.true))
    ]
