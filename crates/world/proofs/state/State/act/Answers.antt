use Rattle.std.proofs.Common.{deque_items, vec_items, refl, ap, ◌∙◌, ◌++◌}
use Rattle.std.proofs.lemmas.Result.{on_ok_weaker}
use Rattle.crew.specs.Shared.{job_of}
use Rattle.world.specs.Calls.{call_of}
use Rattle.world.proofs.Staging.{on_ok_if, said_behind}
use Rattle.world.proofs.state.State.act.Goals as goal

pub returns : goal.returns
returns g c =
    let s = c.args.self.now in
    let t = c.tell.new.self in
    let told = c.in_ok-says.ensures in
    let old = deque_items t.underway in
    on_ok_weaker c.append.result
    (λ is. record {
      table = told.table;
      crew = said_behind (job_of s.table (g.P.Plan.program c.args.setting.now.plan.now)) c.args.line.0 (call_of c.args.call) s t old (deque_items c.append.new.self) (vec_items c.in_ok-says.says) told refl (is ∙ ap (λ l. old ++ l) c.from_vec.ensures.items);
    })
    (on_ok_if c.append.result (deque_items c.append.new.self) _ _ c.append.ensures.items)
