use Rattle.std.proofs.Common.{None, Some, refl, subst, sym, ◌∙◌}
use Rattle.sv_wire.specs.declared.item.Item.{Item}
use Rattle.sv_wire.specs.declared.owed_head.Judgement.TheVariants.{Accepted}
use Rattle.sv_wire.specs.declared.read_items.Next.TheVariants.{Found}
use Rattle.sv_wire.specs.Next.{ComesNext}
use Rattle.sv_wire.proofs.PendingLemmas.{pending_sound, head_accepted, head_alone, if_ok_map}
use Rattle.sv_wire.proofs.read_items.next_behind_accepted.Goals as goal

pub next_in_body-requires-clause-sound : goal.next_in_body-requires-clause-sound
next_in_body-requires-clause-sound c =
    pending_sound c.args.stream.now c.args.start c.args.end (Accepted c.args.owed) c.requires.order c.requires.within c.requires.head
    c.args.owed c.in_ok-pending.pending refl c.in_ok-pending.ensures

pub returns-then-not-has_body : goal.returns-then-not-has_body
returns-then-not-has_body c =
    subst (λ (item : Item). ComesNext None c.args.stream.now c.args.start (Found item None c.args.end)) (sym c.alone.ensures)
    (head_alone c.args.stream.now c.args.start c.args.end (Accepted c.args.owed) c.requires.order c.requires.within c.requires.head
    c.args.owed refl (sym c.has_body.ensures ∙ c.if-not-has_body.true))

pub returns : goal.returns
returns c =
    if_ok_map (ComesNext (Some c.in_ok-pending.pending) c.args.stream.now c.args.end) (ComesNext None c.args.stream.now c.args.start) c.next_in_body.result
    (head_accepted c.args.stream.now c.args.start c.args.end (Accepted c.args.owed) c.requires.order c.requires.within c.requires.head
    c.args.owed c.in_ok-pending.pending refl c.in_ok-pending.ensures)
    c.next_in_body.ensures
