use Rattle.std.proofs.Common.{◌≡◌, ℕ, List, sym, ap, ◌∙◌, refl, cond, false, inl, inr, Option, Some, None}
use Rattle.std.specs.HashMap.{get_by_text}
use Rattle.std.specs.Option.{is_some, option_or}
use Rattle.std.specs.Str.{bytes_eq}
use Rattle.std.specs.String.{string_bytes}
use Rattle.std.proofs.lemmas.Bool.{cases_Bool}
use Rattle.std.proofs.lemmas.Map.Text.{hash_map_updates_text}
use Rattle.sv_mapping.proofs.Classes.{same_bytes}
use Rattle.sv_mapping.proofs.pattern_index.Index.add_extension.Goals as goal

unknown : (o : Option ℕ) → is_some o ≡ false → o ≡ None
unknown None h = refl
unknown (Some n) h = cc

put : (extension wanted : List ℕ) (old new : List ℕ → Option ℕ) (place : ℕ) → new wanted ≡ cond (bytes_eq extension wanted) (Some place) (old wanted) → old extension ≡ None → new wanted ≡ cond (bytes_eq extension wanted) (option_or (old wanted) (Some place)) (old wanted)
put extension wanted old new place is free =
    elim (cases_Bool (bytes_eq extension wanted)) [
      | inl e ↦ is ∙ rw (e, sym (ap old (same_bytes extension wanted e)) ∙ free) refl
      | inr e ↦ is ∙ rw e refl
    ]

pub returns-clause-extensions : goal.returns-clause-extensions
returns-clause-extensions c = λ wanted.
    let updated = hash_map_updates_text (string_bytes c.in_ok-from_str.field-0) c.args.self.now.extensions c.insert.new.self _ c.in_ok-insert.ensures.updates wanted in
    put c.args.extension.now wanted (get_by_text c.args.self.now.extensions) (get_by_text c.insert.new.self) c.args.place (updated ∙ ap (λ bs. cond (bytes_eq bs wanted) (Some c.args.place) (get_by_text c.args.self.now.extensions wanted)) c.in_ok-from_str.ensures.ok) (unknown _ (sym c.contains_key.ensures ∙ c.if-contains_key.false))
