use Rattle.aug_script.proofs.DeviceLemmas.{finished_text}
use Rattle.aug_script.proofs.sending.send.Goals as goal

pub returns-clause-ok : goal.returns-clause-ok
returns-clause-ok g c = (finished_text c.finish.result _ _ _ _ c.in_ok-write_pieces.ensures.ok c.finish.ensures.bytes c.finish.ensures.counted c.finish.ensures.finished).0

pub returns-clause-err : goal.returns-clause-err
returns-clause-err g c = (finished_text c.finish.result _ _ _ _ c.in_ok-write_pieces.ensures.ok c.finish.ensures.bytes c.finish.ensures.counted c.finish.ensures.finished).1
