-- `built::write_problem` meets its contract: the parts of the file, one behind another. Assumes nothing.
use borrow.Author.Rules.{rules}
use Rattle.records.specs.Puts.{fresh_room, fresh_out}
use Rattle.built.specs.Problem.{first_room, starts_room, tr_room, bad_room, lemmas_room, end_room, file_written}
use Rattle.built.proofs.write_problem.Goals as goal

pub put_first-requires-clause-m_in_bounds : goal.put_first-requires-clause-m_in_bounds
put_first-requires-clause-m_in_bounds c =
    first_room c.args.text.now c.args.c _ (fresh_room c.new-file.ensures c.requires.lemmas_in_bounds)

pub put_starts-requires-clause-c_in_bounds : goal.put_starts-requires-clause-c_in_bounds
put_starts-requires-clause-c_in_bounds c =
    starts_room c.args.text.now c.args.c _ (fresh_room c.new-file.ensures c.requires.lemmas_in_bounds) c.put_first.ensures

pub put_tr-requires-clause-c_in_bounds : goal.put_tr-requires-clause-c_in_bounds
put_tr-requires-clause-c_in_bounds c =
    tr_room c.args.text.now c.args.c _ (fresh_room c.new-file.ensures c.requires.lemmas_in_bounds) c.put_first.ensures c.put_starts.ensures

pub put_bad-requires-clause-c_in_bounds : goal.put_bad-requires-clause-c_in_bounds
put_bad-requires-clause-c_in_bounds c =
    bad_room c.args.text.now c.args.c _ (fresh_room c.new-file.ensures c.requires.lemmas_in_bounds) c.put_first.ensures c.put_starts.ensures c.put_tr.ensures

pub write_lemmas-requires-clause-text_in_bounds : goal.write_lemmas-requires-clause-text_in_bounds
write_lemmas-requires-clause-text_in_bounds c =
    lemmas_room c.args.text.now c.args.c _ (fresh_room c.new-file.ensures c.requires.lemmas_in_bounds) c.put_first.ensures c.put_starts.ensures c.put_tr.ensures c.put_bad.ensures

pub put_end-requires : goal.put_end-requires
put_end-requires c =
    end_room c.args.text.now c.args.c _ (fresh_room c.new-file.ensures c.requires.lemmas_in_bounds) c.put_first.ensures c.put_starts.ensures c.put_tr.ensures c.put_bad.ensures c.write_lemmas.ensures

pub returns : goal.returns
returns c =
    let wrote =
    file_written c.args.text.now c.args.c _ (fresh_room c.new-file.ensures c.requires.lemmas_in_bounds) c.put_first.ensures c.put_starts.ensures c.put_tr.ensures c.put_bad.ensures c.write_lemmas.ensures c.put_end.ensures in
    fresh_out c.new-file.ensures wrote (search (rules, wrote.lent, c.new-file.ensures.lent))
