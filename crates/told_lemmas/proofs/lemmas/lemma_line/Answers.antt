-- `told_lemmas::lemmas::lemma_line` meets its contract: its position, then the lemma of the problem that the file is read as. Assumes nothing.
use Rattle.std.proofs.Common.{rules, sym, ap, ◌∙◌}
use Rattle.meaning.specs.File.{Reading}
use Rattle.problem.specs.Answers.{reading_of_answer}
use Rattle.text.specs.Pages.{Puts, puts_both, puts_is, puts_out}
use Rattle.told_lemmas.specs.Lemmas.{lemma_text, lemma_line}
use Rattle.told_lemmas.proofs.lemmas.lemma_line.Goals as goal
use Rattle.told_lemmas.proofs.lemmas.lemma_line.Goals.{in-Ok, in-Err}

pub returns : goal.returns
unfolding lemma_line lemma_text
returns c =
    let a = c.args in
    let wrote : Puts (lemma_line a.file.now a.position) c.new-page.result c.match-read_problem.page =
    elim c.match-read_problem.branch [
      | in-Ok w ↦
          let e = sym (ap (reading_of_answer a.file.now) w.in-Ok.is) ∙ c.read_problem.ensures.0 in
          rw w.page-is (puts_both c.put_filled.ensures (puts_is (ap (λ (r : Reading). lemma_text r a.position) e) w.put_lemma.ensures))
      | in-Err w ↦
          let e = sym (ap (reading_of_answer a.file.now) w.in-Err.is) ∙ c.read_problem.ensures.0 in
          rw w.page-is (puts_both c.put_filled.ensures (puts_is (ap (λ (r : Reading). lemma_text r a.position) e) w.put_all.ensures))
    ] in
    puts_out c.new-page.ensures wrote (search (rules, wrote.lent, c.new-page.ensures.lent))
