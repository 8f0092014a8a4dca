use Prim.Native.Nat.{ℕ, ◌+◌, ◌-◌, ◌*◌}
use native.Mathlib.Omega.{arith}
use mathlib.Core.Path.{◌≡◌, sym, ap, ap₂, subst₂, ◌∙◌}
use mathlib.Core.List.{List, [], ◌∷◌, map}
use Rattle.meaning.specs.Clauses.{Literal, Clause, negation}
use Rattle.meaning.specs.Rules.{denied, next}
use Rattle.meaning.specs.File.{literal_at, literals}
use Rattle.laws.specs.Within.{ClauseWithin}
use Rattle.format.specs.Forms.{literal_of}
use Rattle.passes.specs.Sweep.{status, sweep}
use Rattle.passes.specs.Forms.{entries, tally_at}
use Rattle.passes.specs.Places.{Denials}
use Rattle.passes.proofs.PlaceLaws.{denied_done}
use Rattle.passes.proofs.TurnLaws.{denied_from, denials_after, denial_below, denial_alone, denial_turn, one_below, over}
use Rattle.passes.proofs.clauses.sweep_denied.Goals.{After-denial-l}
use Rattle.passes.proofs.clauses.sweep_denied.Goals as goal

-- the literal that is denied, and its range
denied_literal : (c : After-denial-l)
    → literal_of c.denial-l.result ≡ negation (next c.args.added (literal_at c.args.file.now (c.args.start + 2 * c.loop-i.i)))
denied_literal c =
    c.denial-l.ensures ∙ ap (λ (l : Literal). negation (next c.args.added l)) c.literal_at.ensures

denied_within : (c : After-denial-l) → ClauseWithin 512 (literal_of c.denial-l.result ∷ [])
denied_within c =
    rw (denied_literal c)
    (denial_alone c.args.file.now c.args.start c.args.count c.args.added c.loop-i.i c.loop-i-test.true c.loop-i.invariant.left)

pub loop-i-init : goal.loop-i-init
unfolding denied_from
loop-i-init c =
    let e : c.args.count ≡ c.args.count - 0 = omega arith in
    let f : c.args.start ≡ c.args.start + 2 * 0 = omega arith in record {
      left = subst₂ (λ (at left : ℕ). Denials c.args.file.now at left c.args.added) f e c.requires;
      so_far =
          ap₂ (λ (at left : ℕ). sweep (denied (map (next c.args.added) (literals c.args.file.now at left)))
          (tally_at c.args.t (entries c.args.values.now))) f e;
    }

pub returns-in-Closed : goal.returns-in-Closed
returns-in-Closed c =
    over c.loop-i.tally (entries c.loop-i.values) (denied_from c.args.file.now c.args.start c.args.count c.args.added c.loop-i.i) _
    c.in-Closed.is c.loop-i.invariant.so_far

pub denial-l-requires : goal.denial-l-requires
denial-l-requires c =
    rw c.literal_at.ensures
    (denial_below c.args.file.now c.args.start c.args.count c.args.added c.loop-i.i c.loop-i-test.true c.loop-i.invariant.left)

pub lone-requires : goal.lone-requires
lone-requires c = omega (arith, (denied_within c).0.1)

pub met-tally-requires : goal.met-tally-requires
met-tally-requires c =
    one_below (entries c.loop-i.values) (literal_of c.denial-l.result ∷ [])
    (denied_within (goal.at.met-tally-requires c).After-denial-l) c.lone.result c.lone.ensures

pub loop-i-preserved : goal.loop-i-preserved
loop-i-preserved c = record {
  left =
      denials_after c.args.file.now c.args.start c.args.count c.args.added c.loop-i.i c.loop-i-test.true c.loop-i.invariant.left;
  so_far =
      c.loop-i.invariant.so_far ∙
      denial_turn c.args.file.now c.args.start c.args.count c.args.added c.loop-i.i c.loop-i-test.true c.loop-i.invariant.left
      c.loop-i.tally c.met-tally.result c.lone.result (entries c.loop-i.values) (entries c.met-tally.new.values)
      (c.lone.ensures ∙
      ap (λ (l : Literal). status (entries c.loop-i.values) (l ∷ []))
      (denied_literal (goal.at.loop-i-preserved c).After-denial-l))
      c.met-tally.ensures;
}

pub returns : goal.returns
unfolding sweep denied_from
returns c =
    sym (c.loop-i.invariant.so_far ∙
    ap (λ (cs : List Clause). sweep cs (tally_at c.loop-i.tally (entries c.loop-i.values)))
    (denied_done c.args.file.now (c.args.start + 2 * c.loop-i.i) (c.args.count - c.loop-i.i) c.args.added (omega arith)))
