-- `sweep_all` meets its contract: a pass over lists one after another is the pass over all.
use Rattle.passes.specs.Sweep.{passed, satisfied}
use Rattle.passes.specs.Forms.{entries}
use Rattle.search.proofs.EngineLaws.{parts_swept}
use Rattle.search.proofs.engine.sweep_all.Goals as goal

pub returns : goal.returns
returns c =
    let q = c.args.q.now in
    parts_swept q.file.now q.on.now q.parts (passed (entries c.args.values.now) satisfied) _ _ _ _
    c.sweep_records-first.ensures c.sweep_marked-lemmas.ensures c.sweep_records-last.ensures c.sweep_denied.ensures
