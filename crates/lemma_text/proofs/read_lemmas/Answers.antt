use mathlib.Core.Path.{sym, ◌∙◌, ◌≡◌}
use native.Mathlib.Omega.{arith}
use Rattle.std.specs.Prelude.{None}
use Rattle.std.proofs.lemmas.Result.{err_from_is_err_and}
use Rattle.meaning.specs.LemmaText.{read_lemma_text}
use Rattle.lemma_text.specs.Rest.{summary_start, lemmas_on, read_past, read_more, told_fault, told_end}
use Rattle.lemma_text.proofs.read_lemmas.Goals as goal

pub loop-at-init : goal.loop-at-init
unfolding read_lemma_text lemmas_on
loop-at-init c = (summary_start _, omega arith, omega arith)

pub returns-in_err-line : goal.returns-in_err-line
returns-in_err-line c =
    let p = err_from_is_err_and c.from_residual.result c.from_residual.ensures.1 in
    let none : None ≡ c.line_at.result = sym c.in_err-line.ensures.ok_part in
    let fault = told_fault _ _ _ (none ∙ c.line_at.ensures) c.loop-at.count c.loop-at.longest c.loop-at-test.true in
    let told = rw c.in_err-line.ensures.ok_part at c.in_err-line.ensures.value in
    cc (p.1, p.2, told, fault)

pub loop-at-smaller : goal.loop-at-smaller
loop-at-smaller c = omega (arith, (read_past _ _ _ _ (sym c.in_ok-line.ensures.ok_part ∙ c.line_at.ensures)).1)

pub loop-at-preserved : goal.loop-at-preserved
loop-at-preserved c =
    let is = sym c.in_ok-line.ensures.ok_part ∙ c.line_at.ensures in
    let past = read_past _ _ _ _ is in
    (c.loop-at.invariant.0 ∙ read_more _ _ _ _ is _ _ c.loop-at-test.true ∙ rw c.max-longest.ensures, past.0, omega (arith, past.1))

pub returns : goal.returns
returns c = sym (c.loop-at.invariant.0 ∙ told_end _ _ _ _ _ c.loop-at-test.false)
