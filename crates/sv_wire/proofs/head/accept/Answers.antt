use Rattle.std.proofs.Common.{◌≡◌, Bool, true, false, not, List, [], ◌∷◌, ◌++◌, Ok, Err, refl, sym, ◌∙◌}
use Rattle.sv_text.specs.Faults.{when, first_or}
use Rattle.sv_wire.specs.declared.wire_fault.WireFault.{WireFault}
use Rattle.sv_wire.specs.declared.wire_fault.WireFault.TheVariants.{BadHost, BadTarget, BadExpect}
use Rattle.sv_wire.specs.Head.{framing_faults}
use Rattle.sv_wire.proofs.BareLemmas.{bare_faults, bare_expectation}
use Rattle.sv_wire.proofs.head.accept.Goals as goal

first_of_both : (faults more : List WireFault) (fault : WireFault) → first_or faults (tt {0}) ≡ Err fault → first_or (faults ++ more) (tt {0}) ≡ Err fault
first_of_both [] more fault given = cc
first_of_both (first ∷ faults) more fault given = given

first_behind : (accepted unknown : Bool) (faults more : List WireFault) (fault : WireFault) → true ≡ accepted → false ≡ unknown
    → first_or faults (tt {0}) ≡ Err fault → first_or (when (not accepted) BadHost ++ when unknown BadTarget ++ faults ++ more) (tt {0}) ≡ Err fault
first_behind accepted unknown faults more fault hosts form given = rw (sym hosts, sym form) (first_of_both faults more fault given)

no_faults : (accepted unknown expects : Bool) (faults : List WireFault) → true ≡ accepted → false ≡ unknown → faults ≡ [] → expects ≡ false
    → first_or (when (not accepted) BadHost ++ when unknown BadTarget ++ faults ++ when expects BadExpect) (tt {0}) ≡ Ok (tt {0})
no_faults accepted unknown expects faults hosts form none known = rw (sym hosts, sym form, none, known) refl

pub returns-then-not-told : goal.returns-then-not-told
returns-then-not-told c =
    let none = sym c.requires ∙ c.if-not-told.true in
    sym (no_faults _ _ _ (framing_faults c.args.minor c.args.fields.now)
    (sym c.if-not-accepts_hosts.false ∙ c.accepts_hosts.ensures)
    (sym c.if-is_unknown.false ∙ c.is_unknown.ensures)
    (bare_faults c.args.fields.now none c.args.minor)
    (bare_expectation c.args.fields.now none c.args.minor))

pub returns-in-Err : goal.returns-in-Err
returns-in-Err c =
    sym (first_behind _ _ (framing_faults c.args.minor c.args.fields.now) _ c.in-Err.fault (sym c.if-not-accepts_hosts.false ∙ c.accepts_hosts.ensures)
    (sym c.if-is_unknown.false ∙ c.is_unknown.ensures) (sym c.accept_framing.ensures ∙ c.in-Err.is))
