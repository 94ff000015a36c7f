use Rattle.std.proofs.lemmas.Slice.Eq.{bytes_eq-Decides}
use Rattle.std.proofs.Common.{arith, ◌≡◌, ℕ, Bool, true, false, List, [], ◌∷◌, ◌++◌, codes, cond, refl, ap, sym, ◌∙◌, Option, None, Some}
use Rattle.std.specs.Prelude.{IfSome}
use Rattle.std.specs.Str.{bytes_eq}
use Rattle.std.specs.Str.Pattern.{CutsPrefixes, FindsTextPrefix, LacksTextAt}
use Rattle.sv_findings.specs.LoginNeeds.{without_parents}
use Rattle.sv_findings.proofs.guarded_context.without_parents.Goals as goal

abbrev parent : List ℕ
parent = codes "../"

none_at : (a b c : ℕ) (rest : List ℕ) (is : Bool) → bytes_eq (a ∷ b ∷ c ∷ []) parent ≡ is → LacksTextAt parent (a ∷ b ∷ c ∷ rest) 0 → cond is (without_parents rest) (a ∷ b ∷ c ∷ rest) ≡ a ∷ b ∷ c ∷ rest
none_at a b c rest true is lacks = absurd (lacks rest (ap (λ front. front ++ rest) ((bytes_eq-Decides (a ∷ b ∷ c ∷ []) parent).0 is)))
none_at a b c rest false is lacks = refl

none_left : (text : List ℕ) → LacksTextAt parent text 0 → without_parents text ≡ text
none_left [] lacks = refl
none_left (a ∷ []) lacks = refl
none_left (a ∷ b ∷ []) lacks = refl
none_left (a ∷ b ∷ c ∷ rest) lacks = none_at a b c rest (bytes_eq (a ∷ b ∷ c ∷ []) parent) refl lacks

trimmed : (text : List ℕ) (found : Option ℕ) → FindsTextPrefix parent text found → IfSome found (λ n. n ≡ 0) → without_parents text ≡ text
trimmed text None lacks none = none_left text lacks
trimmed text (Some n) finds none = absurd (omega (arith, finds.0, none))

cut : (text rest : List ℕ) (lengths : List ℕ) → CutsPrefixes (FindsTextPrefix parent) text lengths rest → without_parents text ≡ without_parents rest
cut text rest [] is = ap without_parents (sym is)
cut text rest (n ∷ lengths) (middle, before, finds, is) =
    cut text middle lengths before ∙ ap without_parents finds.1 ∙ ap without_parents (sym is)

pub returns : goal.returns
returns c =
    let it = c.trim_start_matches.ensures.matches in
    sym (cut c.args.relative.now c.trim_start_matches.result.now it.0.0 it.0.1 ∙ trimmed c.trim_start_matches.result.now it.1.0 it.1.1 it.1.2)
