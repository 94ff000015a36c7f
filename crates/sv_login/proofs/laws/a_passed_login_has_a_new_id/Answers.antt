use Rattle.std.proofs.Common.{◌+◌}
use Rattle.sv_session.specs.Id.{id_text}
use Rattle.sv_session.specs.Runs.{left_after}
use Rattle.sv_session.specs.Store.{empty_store}
use Rattle.sv_login.proofs.IdLemmas.{is_new, orderly_after}
use Rattle.sv_login.proofs.PassLemmas.{has_next_id, session_is_free}
use Rattle.sv_login.proofs.laws.a_passed_login_has_a_new_id.Goals as goal

pub returns : goal.returns
returns c limit interval calls users post held words now number target passed =
    let store = left_after calls (empty_store limit interval) in (
      id_text words (store.serial + 1),
      has_next_id users post held words now store number target passed
          (orderly_after c.sessions_stay_in_order.ensures.call calls (empty_store limit interval) (c.sessions_stay_in_order.ensures.empty limit interval)),
      is_new c.no_id_is_given_twice.ensures limit interval calls held words now (session_is_free users post held words now store number target passed),
    )
