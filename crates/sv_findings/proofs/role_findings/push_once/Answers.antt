use Rattle.std.proofs.Common.{◌≡◌, ℕ, List, [], ◌∷◌, ◌++◌, map, cond, ap, sym, ◌∙◌, true, false}
use Rattle.std.specs.Borrow.{Bor}
use Rattle.std.proofs.lemmas.List.{map-append}
use Rattle.sv_constraints.specs.Covering.{lists}
use Rattle.sv_policy.specs.Patterns.{kept_once}
use Rattle.sv_findings.proofs.role_findings.push_once.Goals as goal

stays : (kept : List (List ℕ)) (text : List ℕ) → lists kept text ≡ true → kept ≡ kept_once kept text
stays kept text is = sym (ap (λ b. cond b kept (kept ++ text ∷ [])) is)

grows : (kept : List (List ℕ)) (text : List ℕ) → lists kept text ≡ false → kept ++ text ∷ [] ≡ kept_once kept text
grows kept text is = sym (ap (λ b. cond b kept (kept ++ text ∷ [])) is)

pub returns-then-is_listed : goal.returns-then-is_listed
returns-then-is_listed c =
    stays (map (λ (one : Bor (List ℕ)). one.now) c.args.texts.now.items) c.args.text.now
    (ap (λ items. lists (map (λ (one : Bor (List ℕ)). one.now) items) c.args.text.now) (sym c.as_slice.ensures.value) ∙ sym c.is_listed.ensures ∙ c.if-is_listed.true)

pub returns : goal.returns
returns c =
    ap (map (λ (one : Bor (List ℕ)). one.now)) c.in_ok-push.ensures.items ∙ map-append (λ (one : Bor (List ℕ)). one.now) c.args.texts.now.items (c.args.text ∷ [])
    ∙ grows (map (λ (one : Bor (List ℕ)). one.now) c.args.texts.now.items) c.args.text.now
    (ap (λ items. lists (map (λ (one : Bor (List ℕ)). one.now) items) c.args.text.now) (sym c.as_slice.ensures.value) ∙ sym c.is_listed.ensures ∙ c.if-is_listed.false)
