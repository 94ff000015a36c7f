-- The loop that collects the lines of uncovered methods.
use Rattle.std.proofs.Common.{◌≡◌, ◌∙◌, ℕ, ◌+◌, ◌<◌, List, ◌∷◌, ◌++◌, flat_map, length, drop, get_or, drop-cons, add-one, Ok, Err, refl, suc, sym, ap, append_assoc}
use Rattle.sv_text.specs.Steps.{◌>>=◌}
use Rattle.sv_program.specs.Configuration.{Step, each}
use Rattle.sv_program.specs.Uncovered.{context_lines, uncovered_lines}
use Rattle.sv_program.specs.declared.configuration.ContextTexts.{ContextTexts}

-- ---- one line
further : (old mid new front back : List ℕ) → new ≡ mid ++ back → mid ≡ old ++ front → new ≡ old ++ (front ++ back)
further old mid new front back h k = h ∙ (ap (λ t. t ++ back) k ∙ append_assoc old front back)

-- seven texts appended in order
pub seven : (s0 s1 s2 s3 s4 s5 s6 s7 a b c d e f g : List ℕ) → s1 ≡ s0 ++ a → s2 ≡ s1 ++ b → s3 ≡ s2 ++ c → s4 ≡ s3 ++ d → s5 ≡ s4 ++ e → s6 ≡ s5 ++ f → s7 ≡ s6 ++ g
    → s7 ≡ s0 ++ (a ++ b ++ c ++ d ++ e ++ f ++ g)
seven s0 s1 s2 s3 s4 s5 s6 s7 a b c d e f g h1 h2 h3 h4 h5 h6 h7 =
    further s0 s6 s7 (a ++ b ++ c ++ d ++ e ++ f) g h7
    (further s0 s5 s6 (a ++ b ++ c ++ d ++ e) f h6
    (further s0 s4 s5 (a ++ b ++ c ++ d) e h5
    (further s0 s3 s4 (a ++ b ++ c) d h4
    (further s0 s2 s3 (a ++ b) c h3
    (further s0 s1 s2 a b h2 h1)))))

-- ---- one more context
joined : (lines b : List ℕ) (rest : Step (List (List ℕ)))
    → ((rest >>= λ bs. Ok (flat_map (λ line. line) bs)) >>= λ more. Ok ((lines ++ b) ++ more)) ≡ (((rest >>= λ bs. Ok (b ∷ bs)) >>= λ bs. Ok (flat_map (λ line. line) bs)) >>= λ more. Ok (lines ++ more))
joined lines b (Ok bs) = ap Ok (append_assoc lines b (flat_map (λ line. line) bs))
joined lines b (Err fault) = refl

pub one_context_more : (texts : List ContextTexts) (i : ℕ) (at : ContextTexts) (b lines next : List ℕ) (whole : Step (List ℕ))
    → i < length texts → at ≡ get_or texts i at → context_lines at ≡ Ok b → next ≡ lines ++ b
    → (uncovered_lines (drop i texts) >>= λ rest. Ok (lines ++ rest)) ≡ whole
    → (uncovered_lines (drop (i + 1) texts) >>= λ rest. Ok (next ++ rest)) ≡ whole
one_context_more texts i at b lines next whole within is gives pushed known =
    let front : drop i texts ≡ at ∷ drop (i + 1) texts = rw (add-one, drop-cons texts i at) (ap (λ x. x ∷ drop (suc i) texts) (sym is)) in
    let shown = rw front at known in
    rw pushed (joined lines b (each context_lines (drop (i + 1) texts)) ∙ rw gives at shown)
