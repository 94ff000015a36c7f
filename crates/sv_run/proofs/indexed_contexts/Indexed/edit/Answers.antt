use Rattle.std.proofs.Common.{◌<◌, Err, List, bytes_eq, length, slice_set, subst, sym, ap, ◌∙◌}
use Rattle.std.specs.List.{position}
use Rattle.sv_policy.specs.declared.edit_fault.EditFault.TheVariants.{NoSuch}
use Rattle.sv_run.specs.Contexts.{theory_of}
use Rattle.sv_run.specs.Editing.{EditsIn, place_with}
use Rattle.sv_run.specs.Events.{AltersAll}
use Rattle.sv_run.proofs.Contexts.{alters_at, alters_none}
use Rattle.sv_run.proofs.EditedContexts.{edits_none, edits_there, same_path}
use Rattle.sv_run.proofs.Places.{position_map}
use Rattle.sv_run.proofs.indexed_contexts.Indexed.edit.Goals as goal

pub invariant_of-self : goal.invariant_of-self
invariant_of-self g c =
    let held = c.self.inside.contexts.items in
    let old = c.index_mut.result.now in
    let within = subst (λ (cs : List g.row.C.Denot). c.in-Some.place < length cs) c.as_slice.ensures.value c.in-Some.ensures.bound in
    c.self.invariant ∙ sym (same_path g.C.HasContextPath.path_of held c.in-Some.place old c.edit.new.self within c.index_mut.ensures.value
    (g.met.C.Context.edits_alone.path old c.edit.new.self c.args.edit.now c.edit.result c.edit.ensures.edits))

pub returns-in_default-clause-edits : goal.returns-in_default-clause-edits
returns-in_default-clause-edits g c = λ answers.
    let path_of = g.C.HasContextPath.path_of in
    let theory = theory_of path_of g.C.Context.conduct g.W.Words.draws in
    let held = c.self.inside.contexts.items in
    let path = c.args.path.now in
    let none = position_map (bytes_eq path) path_of held ∙ ap (position (λ context. bytes_eq path (path_of context))) (sym c.as_slice.ensures.value)
    ∙ sym c.place_of.ensures.place ∙ c.in_default.is in
    subst (λ (contexts : List g.row.C.Denot). EditsIn theory (place_with theory contexts path) contexts c.args.edit.now (Err NoSuch) contexts) c.self.view_is
    (edits_none theory held path c.args.edit.now none)

pub returns-in_default-clause-alters : goal.returns-in_default-clause-alters
returns-in_default-clause-alters g c = alters_none g.C.Context.conduct g.met.C.Context.is_motion c.args.self.now

pub returns-clause-edits : goal.returns-clause-edits
returns-clause-edits g c = λ answers.
    let path_of = g.C.HasContextPath.path_of in
    let theory = theory_of path_of g.C.Context.conduct g.W.Words.draws in
    let held = c.self.inside.contexts.items in
    let path = c.args.path.now in
    let found = position_map (bytes_eq path) path_of held ∙ ap (position (λ context. bytes_eq path (path_of context))) (sym c.as_slice.ensures.value)
    ∙ sym c.place_of.ensures.place ∙ c.in-Some.is in
    let within = subst (λ (cs : List g.row.C.Denot). c.in-Some.place < length cs) c.as_slice.ensures.value c.in-Some.ensures.bound in
    subst (λ (before : List g.row.C.Denot). EditsIn theory (place_with theory before path) before c.args.edit.now c.edit.result
    (slice_set held c.in-Some.place c.edit.new.self)) c.self.view_is
    (edits_there theory held path c.args.edit.now c.in-Some.place c.index_mut.result.now c.edit.new.self c.edit.result found within c.index_mut.ensures.value
    c.edit.ensures.edits answers)

pub returns-clause-alters : goal.returns-clause-alters
returns-clause-alters g c =
    let conduct = g.C.Context.conduct in
    let held = c.self.inside.contexts.items in
    let within = subst (λ (cs : List g.row.C.Denot). c.in-Some.place < length cs) c.as_slice.ensures.value c.in-Some.ensures.bound in
    subst (λ before. AltersAll conduct before (slice_set held c.in-Some.place c.edit.new.self)) c.self.view_is
    (alters_at conduct g.met.C.Context.is_motion c.in-Some.place held c.index_mut.result.now c.edit.new.self c.args.edit.now c.edit.result within
    c.index_mut.ensures.value c.edit.ensures.edits)
