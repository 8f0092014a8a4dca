use Prim.Native.Nat.{ℕ, ◌+◌, ◌-◌, ◌≤◌, ◌<◌}
use native.Mathlib.Omega.{arith}
use Rattle.std.proofs.lemmas.Result.{err_from_is_err_and}
use native.Mathlib.Nat.{pos_of_ne-zero}
use mathlib.Core.Path.{◌≡◌, sym, ap, ◌∙◌, subst}
use borrow.Author.Rules.{rules}
use Rattle.std.specs.Prelude.{Ok}
use Rattle.meaning.specs.Search.{Setting, with_literal}
use Rattle.laws.specs.Setting.{unset_count, variable_negation}
use Rattle.format.specs.Forms.{literal_of}
use Rattle.passes.specs.Forms.{entries}
use Rattle.search.specs.Forms.{setting_of}
use Rattle.search.specs.Engine.{clauses_of}
use Rattle.search.proofs.BudgetLaws.{ok_is, ok_not_err, bounded_counts}
use Rattle.search.proofs.EngineLaws.{Trying, clauses_within, entries_sized, ready_ended, try_range, try_spent, try_first, try_wanted, try_room, try_second}
use Rattle.search.proofs.engine.+decide.Goals.{In-Try, Else-left-used}
use Rattle.search.proofs.engine.+decide.Goals as goal

-- a try asks what the search asks, at fewer unset entries
fewer : (t : ℕ) (v x w : Setting) → unset_count v ≡ t → w ≡ x → unset_count x < unset_count v → unset_count w < t
fewer t v x w e is h = subst (λ (y : Setting). unset_count y < t) (sym is) (subst (λ (k : ℕ). unset_count x < k) e h)

-- the literal to try
trying : (t : ℕ) (c : In-Try t) → Trying (clauses_of c.args.q.now) (setting_of c.args.start) (entries c.propagate-next.new.values) (literal_of c.in-Try.l)
trying t c = record { within = clauses_within c.args.q.now; sized = entries_sized _ (search rules); ready = c.in-Try.ensures }

-- both tries fit what is left
room : (t : ℕ) (c : Else-left-used t) → 2 + c.in-No.used ≤ c.args.left
room t c = try_room (trying t (goal.at.Else-left-used t c).In-Try) c.if-left-eq0.false c.with.ensures c.in_ok-yes.ensures (ap Ok c.in-No.is) c.if-left-used.false

pub returns-in_default : goal.returns-in_default
returns-in_default t c =
    ap Ok c.ended.ensures ∙
    ready_ended (clauses_of c.args.q.now) (setting_of c.args.start) (entries c.propagate-next.new.values) c.args.left c.propagate-next.result c.in_default.not-Try
    c.propagate-next.ensures

pub returns-then-left-eq0 : goal.returns-then-left-eq0
returns-then-left-eq0 t c = try_spent (trying t (goal.at.returns-then-left-eq0 t c).In-Try) c.if-left-eq0.true

pub with-requires : goal.with-requires
with-requires t c = try_range (trying t (goal.at.with-requires t c).In-Try)

pub decide-requires : goal.decide-requires
decide-requires t c = (fewer t _ _ _ c.decreases c.with.ensures c.in-Try.ensures.2, tt)

pub after-requires : goal.after-requires
after-requires t c =
    bounded_counts (c.args.left - 1) _ 1 _ c.in_ok-yes.ensures
    (let some : 0 < c.args.left = pos_of_ne-zero c.if-left-eq0.false in omega (arith, c.ranges.left))

pub returns-in_default-yes : goal.returns-in_default-yes
returns-in_default-yes t c =
    ap Ok c.after.ensures ∙
    try_first (trying t (goal.at.returns-in_default-yes t c).In-Try) c.if-left-eq0.false c.with.ensures c.in_ok-yes.ensures
    (λ d e. c.in_default-yes.not-No d (ok_is e))

pub returns-then-left-used : goal.returns-then-left-used
returns-then-left-used t c =
    try_wanted (trying t (goal.at.returns-then-left-used t c).In-Try) c.if-left-eq0.false c.with.ensures c.in_ok-yes.ensures (ap Ok c.in-No.is) c.if-left-used.true

pub with-requires-2 : goal.with-requires-2
with-requires-2 t c = rw (c.negated.ensures, variable_negation) (try_range (trying t (goal.at.with-requires-2 t c).In-Try))

pub overflow_sub-left-3 : goal.overflow_sub-left-3
overflow_sub-left-3 t c = omega (arith, room t (goal.at.overflow_sub-left-3 t c).Else-left-used)

pub overflow_sub-left-4 : goal.overflow_sub-left-4
overflow_sub-left-4 t c = omega (arith, room t (goal.at.overflow_sub-left-4 t c).Else-left-used)

pub decide-requires-2 : goal.decide-requires-2
decide-requires-2 t c = (fewer t _ _ _ c.decreases (c.with-2.ensures ∙ ap (with_literal _) c.negated.ensures) c.in-Try.ensures.3, tt)

pub overflow_add-used : goal.overflow_add-used
overflow_add-used t c = omega (arith, c.ranges.left, room t (goal.at.overflow_add-used t c).Else-left-used)

pub after-requires-2 : goal.after-requires-2
after-requires-2 t c =
    bounded_counts (c.args.left - 2 - c.in-No.used) _ (c.in-No.used + 2) _ c.in_ok-no.ensures
    (omega (arith, c.ranges.left, room t (goal.at.after-requires-2 t c).Else-left-used))

pub returns : goal.returns
returns t c =
    ap Ok c.after-2.ensures ∙
    try_second (trying t (goal.at.returns t c).In-Try) c.if-left-eq0.false c.with.ensures c.in_ok-yes.ensures (ap Ok c.in-No.is) c.if-left-used.false
    c.negated.ensures c.with-2.ensures c.in_ok-no.ensures

pub returns-in_err-yes : goal.returns-in_err-yes
returns-in_err-yes t c =
    let p = err_from_is_err_and c.from_residual.result c.from_residual.ensures.1 in
    rw p.1
    (try_first (trying t (goal.at.returns-in_err-yes t c).In-Try) c.if-left-eq0.false c.with.ensures c.in_err-yes.ensures (λ d e. ok_not_err (sym e)))

pub returns-in_err-no : goal.returns-in_err-no
returns-in_err-no t c =
    let p = err_from_is_err_and c.from_residual-in_err-no.result c.from_residual-in_err-no.ensures.1 in
    rw p.1
    (try_second (trying t (goal.at.returns-in_err-no t c).In-Try) c.if-left-eq0.false c.with.ensures c.in_ok-yes.ensures (ap Ok c.in-No.is) c.if-left-used.false
    c.negated.ensures c.with-2.ensures c.in_err-no.ensures)
