use Rattle.std.proofs.Common.{ap, sym, ◌∙◌, Some, cond}
use Rattle.std.proofs.lemmas.Map.Text.{hash_map_updates_text}
use Rattle.std.specs.String.{string_bytes}
use Rattle.std.specs.Str.{bytes_eq}
use Rattle.sv_policy.proofs.Lowered.{at_most, kept, put}
use Rattle.sv_policy.specs.Merged.{number_of}
use Rattle.sv_policy.proofs.role_numbers.RoleNumbers.lower.Goals as goal

pub returns-then-is_at_most : goal.returns-then-is_at_most
returns-then-is_at_most c = λ other.
    kept (number_of c.args.self.now) c.args.role.now c.args.number other
    (ap (λ held. at_most held c.args.number) (sym c.of.ensures) ∙ sym c.is_at_most.ensures ∙ c.if-is_at_most.true)

pub returns : goal.returns
returns c = λ other.
    hash_map_updates_text (string_bytes c.in_ok-from_str.field-0) c.args.self.now.numbers c.insert.new.self (Some c.args.number) c.in_ok-insert.ensures.updates other
    ∙ ap (λ bs. cond (bytes_eq bs other) (Some c.args.number) (number_of c.args.self.now other)) c.in_ok-from_str.ensures.ok
    ∙ put (number_of c.args.self.now) c.args.role.now c.args.number other
    (ap (λ held. at_most held c.args.number) (sym c.of.ensures) ∙ sym c.is_at_most.ensures ∙ c.if-is_at_most.false)
