use Prim.Native.Nat.{ℕ}
use mathlib.Core.List.{List, [], ◌∷◌}
use denote.Exit.{no}
use denote.RattleType.{RattleType}
use denote.Struct.Field.{row_field}
use denote.Struct.Tuple.{TupleAt, type_at}
use denote.Param.Send.{sendable, IsSend, IsSync, param_send, param_sync, arg_send, shr_send, shr_slice_send, view_sync}
use denote.Param.SendFields.{as_row_send, declared_send, declared_sync}
use Rattle.std.proofs.Crossing.{crosses}
use Rattle.aug_script.proofs.row.Row.TheSendSync as row
use Rattle.aug_trie.proofs.rounds.round.Round.TheSendSync as round
use Rattle.aug_run.specs.contracts.trie.SharedRound as table
use Rattle.aug_run.specs.contracts.trie.SharedRound.TheInside as inside
use Rattle.aug_run.proofs.lanes.work.Job.TheSendSync as job
use Rattle.aug_run.proofs.lanes.start.start.Goals as goal

-- threads may share a table, as they may share the round in it: what is beside that has no bytes
table_sync : IsSync table.the_row
table_sync = view_sync _ _ _ _ _ (declared_sync inside.the_type (search (sendable, crosses, round.the_sync) depth 20, (search (sendable, crosses) depth 20, tt)))

-- a closure may go to another thread if all four that it captures may
closure_send : (name : List ℕ) (A B C D : RattleType) → IsSend A → IsSend B → IsSend C → IsSend D → IsSend (TupleAt name (A ∷ B ∷ C ∷ D ∷ []))
closure_send name A B C D a b c d =
    declared_send (type_at name (A ∷ B ∷ C ∷ D ∷ [])) (as_row_send (row_field A) a, (as_row_send (row_field B) b, (as_row_send (row_field C) c, (as_row_send (row_field D) d, tt))))

pub spawn_with-requires-send-F : goal.spawn_with-requires-send-F
spawn_with-requires-send-F g c κs within =
    param_send 2 _ (arg_send _ no _ (closure_send _ _ _ _ _ job.the_send (shr_slice_send _ _ _ row.the_sync) (shr_send _ _ _ table_sync) (shr_send _ _ _ (param_sync 1 _ c.type_bounds.sync-G))))
