use Rattle.guestbook_components.proofs.Stored.{passes}
use Rattle.guestbook_components.proofs.guestbook.write.Goals as goal

pub returns : goal.returns
returns g c =
    passes _ _ _ c.answer_of.ensures
    (rw (c.caller_name.ensures, c.moment.ensures, c.as_str.ensures, c.in_ok-words.ensures) at c.write-written.ensures)
