-- How a connection that has ended is closed (RFC 9112, section 9.6).
use Rattle.std.specs.Prelude.{◌||◌, cond, length, nat_eq, not}
use Rattle.sv_connection.specs.Phases.{is_refused}
use Rattle.sv_connection.specs.States.{ConnectionState, is_writing}
use Rattle.sv_connection.specs.declared.close_reason.CloseReason.{CloseReason}
use Rattle.sv_connection.specs.declared.close_reason.CloseReason.TheVariants.{PeerEnded, AnswerCloses, ReadFails, WriteFails, GivenUp}
use Rattle.sv_connection.specs.declared.close_reason.Closing.{Closing}
use Rattle.sv_connection.specs.declared.close_reason.Closing.TheVariants.{AtOnce, Answered, InStages}

module _ {S : Type 0} where
  -- After the last response: in stages if the message was refused, since the peer may still send it, or if more bytes
  -- were received, since the peer sends on.
  abbrev pub behind_answer : ConnectionState S → Closing
  behind_answer at = cond (is_refused at.phase || not (nat_eq (length at.ahead) 0)) InStages Answered

  -- At once if the peer has ended or is gone. A connection that is given up closes in stages, since its peer may still
  -- send.
  abbrev pub closing_of : ConnectionState S → CloseReason → Closing
  closing_of at PeerEnded = AtOnce
  closing_of at AnswerCloses = behind_answer at
  closing_of at ReadFails = AtOnce
  closing_of at WriteFails = AtOnce
  closing_of at GivenUp = InStages

  -- When the loop ends: at once if bytes still wait to be written, and in stages otherwise, so that the peer reads the
  -- last response.
  abbrev pub last_closing : ConnectionState S → Closing
  last_closing at = cond (is_writing at) AtOnce InStages
