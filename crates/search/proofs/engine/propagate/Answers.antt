use native.Mathlib.Omega.{arith}
use mathlib.Core.Path.{◌≡◌, sym, ◌∙◌, subst}
use borrow.Author.Rules.{rules}
use Rattle.meaning.specs.Search.{Setting}
use Rattle.passes.specs.declared.Tally.{Tally}
use Rattle.passes.specs.declared.Tally.TheVariants.{Forced}
use Rattle.passes.specs.Sweep.{Pass, passed, forced}
use Rattle.passes.specs.Forms.{entries, tally_at}
use Rattle.search.specs.Engine.{clauses_of}
use Rattle.search.proofs.SweepLaws.{Turned, swept, ready_before}
use Rattle.search.proofs.EngineLaws.{clauses_within, entries_sized, turned_ready}
use Rattle.search.proofs.engine.propagate.Goals.{After-sweep_all-next}
use Rattle.search.proofs.engine.propagate.Goals as goal

-- what the pass says
abbrev left_behind : After-sweep_all-next → Setting
left_behind c = entries c.sweep_all-next.new.values

abbrev Says : After-sweep_all-next → Pass → Type 0
Says c p =
    Turned (clauses_of c.args.q.now) (entries c.loop-next.values) p

pass_turned : (c : After-sweep_all-next) → Says c (tally_at c.sweep_all-next.result (left_behind c))
pass_turned c =
    let cs = clauses_of c.args.q.now in
    let v = entries c.loop-next.values in
    subst (Turned cs v) (sym c.sweep_all-next.ensures)
    (swept 512 cs (clauses_within c.args.q.now) v (entries_sized _ c.loop-next.invariant.2))

-- where literals were forced
forced_turned : (c : After-sweep_all-next) → c.sweep_all-next.result ≡ Forced → Says c (passed (left_behind c) forced)
forced_turned c is = subst (λ (n : Tally). Says c (tally_at n (left_behind c))) is (pass_turned c)

pub loop-next-smaller : goal.loop-next-smaller
loop-next-smaller c = (forced_turned (goal.at.loop-next-smaller c).After-sweep_all-next c.in-Forced.is).1

pub loop-next-preserved : goal.loop-next-preserved
loop-next-preserved c =
    let t = forced_turned (goal.at.loop-next-preserved c).After-sweep_all-next c.in-Forced.is in
    (c.loop-next.invariant.0 ∙ t.0, omega (arith, c.loop-next.invariant.1, t.1), search rules)

pub returns-in_default : goal.returns-in_default
returns-in_default c =
    let cs = clauses_of c.args.q.now in
    let n = c.sweep_all-next.result in
    ready_before cs (entries c.args.values.now) (entries c.loop-next.values) (tally_at n (left_behind (goal.at.returns-in_default c).After-sweep_all-next)) c.loop-next.invariant.0
    c.loop-next.invariant.1 (entries_sized c.loop-next.values c.loop-next.invariant.2 ∙ sym (entries_sized c.args.values.now (search rules)))
    (turned_ready cs (entries c.loop-next.values) (left_behind (goal.at.returns-in_default c).After-sweep_all-next) n c.in_default.not-Forced (pass_turned (goal.at.returns-in_default c).After-sweep_all-next))
