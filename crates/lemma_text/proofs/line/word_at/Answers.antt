-- `lemma_text::line::word_at` meets its contract. Assumes nothing.
use Rattle.lemma_text.proofs.line.word_at.Goals as goal

pub returns : goal.returns
returns c =
    record { start = c.digits_start-start.ensures.0; inside = c.number_at-number.ensures.inside; whole = c.number_at-number.ensures.digits }
