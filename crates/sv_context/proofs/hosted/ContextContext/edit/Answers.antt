use Rattle.sv_policy.specs.declared.edit_fault.EditFault.TheVariants.{NoMemory}
use Rattle.sv_context.proofs.Editings.{edits_so, refused_stays}
use Rattle.sv_context.specs.State.{context_of}
use Rattle.sv_context.proofs.hosted.ContextContext.edit.Goals as goal

pub returns-clause-refused : goal.returns-clause-refused
returns-clause-refused g c =
    refused_stays c.args.self.now
    (context_of c.self.inside.responder.site c.edit_copy.new.self c.self.inside.users c.self.inside.responder.live c.self.inside.sessions.store)
    c.args.edit.now c.edit_copy.result NoMemory
    (edits_so c.self.inside.responder.site c.self.inside.policy c.edit_copy.new.self c.self.inside.users c.self.inside.responder.live c.self.inside.sessions.store
    c.args.self.now c.args.edit.now c.edit_copy.result c.self.view_is c.edit_copy.ensures)
