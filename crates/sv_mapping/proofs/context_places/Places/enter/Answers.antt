use Rattle.std.proofs.Common.{◌≡◌, ℕ, cond, ap, is_some, sym, ◌∙◌, Some, arith}
use Rattle.std.specs.HashMap.{get_by_text}
use Rattle.std.specs.Str.{bytes_eq}
use Rattle.std.specs.String.{string_bytes}
use Rattle.std.proofs.lemmas.Map.Text.{hash_map_updates_text}
use Rattle.sv_mapping.proofs.Entered.{longest-more, place-again, place-more}
use Rattle.sv_mapping.proofs.context_places.Places.enter.Goals as goal

pub returns-then-contains_key : goal.returns-then-contains_key
returns-then-contains_key c = λ paths are last.
    let path = c.args.path.now in
    let known = sym (ap is_some (are.places path)) ∙ (sym c.contains_key.ensures ∙ c.if-contains_key.true) in
    record {
      places = λ wanted. are.places wanted ∙ sym (place-again paths path wanted known);
      longest = λ wanted over.
          longest-more paths path c.args.self.now.longest are.longest wanted
          (omega (arith, over, c.longer-self.ensures.one)) (omega (arith, over, c.longer-self.ensures.other));
    }

pub returns : goal.returns
returns c = λ paths are last.
    let path = c.args.path.now in
    let unknown = sym (ap is_some (are.places path)) ∙ (sym c.contains_key.ensures ∙ c.if-contains_key.false) in
    record {
      places = λ wanted.
          let updated = hash_map_updates_text (string_bytes c.in_ok-from_str.field-0) c.args.self.now.places c.insert.new.self _ c.in_ok-insert.ensures.updates wanted in
          place-more paths path wanted c.args.place (get_by_text c.args.self.now.places wanted) (get_by_text c.insert.new.self wanted) last unknown
          (are.places wanted) (updated ∙ ap (λ bs. cond (bytes_eq bs wanted) (Some c.args.place) (get_by_text c.args.self.now.places wanted)) c.in_ok-from_str.ensures.ok);
      longest = λ wanted over.
          longest-more paths path c.args.self.now.longest are.longest wanted
          (omega (arith, over, c.longer-self.ensures.one)) (omega (arith, over, c.longer-self.ensures.other));
    }
