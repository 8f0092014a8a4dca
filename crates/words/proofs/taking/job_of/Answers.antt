use native.Mathlib.Omega.{arith}
use Rattle.std.proofs.Common.{◌≡◌, rules}
use Rattle.std.proofs.lemmas.Slice.Eq.{text_from_reads}
use Rattle.text.specs.Ascii.{ascii}
use Rattle.words.specs.Orders.{job_of}
use Rattle.words.proofs.taking.job_of.Goals as goal

pub returns-in-45 : goal.returns-in-45
unfolding job_of
returns-in-45 c =
    let e : c.args.word.now ≡ ascii "--help" = text_from_reads c.args.word.now (ascii "--help") (omega arith) (search rules) in
    rw e

pub returns-in-largest : goal.returns-in-largest
unfolding job_of
returns-in-largest c =
    let e : c.args.word.now ≡ ascii "largest" = text_from_reads c.args.word.now (ascii "largest") (omega arith) (search rules) in
    rw e

pub returns-in-problem : goal.returns-in-problem
unfolding job_of
returns-in-problem c =
    let e : c.args.word.now ≡ ascii "problem" = text_from_reads c.args.word.now (ascii "problem") (omega arith) (search rules) in
    rw e

pub returns-in-45-2 : goal.returns-in-45-2
unfolding job_of
returns-in-45-2 c =
    let e : c.args.word.now ≡ ascii "--version" = text_from_reads c.args.word.now (ascii "--version") (omega arith) (search rules) in
    rw e
