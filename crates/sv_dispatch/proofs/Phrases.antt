-- Numbers without a reason phrase.
use Rattle.std.proofs.Common.{◌≡◌, ℕ, List, [], Option, Some, inl, inr, sym, ap, subst, refl, if◌then◌else◌, lit≤, ◌∙◌}
use Rattle.std.specs.Prelude.{◌==◌, unwrap_or}
use Rattle.std.proofs.lemmas.Bool.{cond-false}
use Rattle.std.proofs.lemmas.Bool.Decides.{eqb_tells}
use Rattle.http.specs.StatusCode.{IsStatusCode}
use Rattle.sv_message.specs.Phrases.{phrase_of}

-- A number that is no status differs from each status that has a phrase.
apart : (status code : ℕ) → (IsStatusCode status → ⊥) → IsStatusCode code → (phrase : List ℕ) (others : Option (List ℕ)) → unwrap_or others [] ≡ []
    → unwrap_or (if status == code then Some phrase else others) [] ≡ []
apart status code none is phrase others rest = elim (eqb_tells status code) [
  | inl same ↦ absurd (none (subst IsStatusCode (sym same.1) is))
  | inr other ↦ ap (λ found. unwrap_or found []) (cond-false (status == code) (Some phrase) others other.0) ∙ rest
]
  where
    absurd : {P : Type 0} → ⊥ → P
    absurd e = elim e [ ]

-- A number that is no status has no phrase.
pub no_phrase : (status : ℕ) → (IsStatusCode status → ⊥) → [] ≡ phrase_of status
unfolding phrase_of
no_phrase status none = sym (
    apart status 100 none (lit≤ tt, lit≤ tt) _ _ (
    apart status 101 none (lit≤ tt, lit≤ tt) _ _ (
    apart status 102 none (lit≤ tt, lit≤ tt) _ _ (
    apart status 103 none (lit≤ tt, lit≤ tt) _ _ (
    apart status 200 none (lit≤ tt, lit≤ tt) _ _ (
    apart status 201 none (lit≤ tt, lit≤ tt) _ _ (
    apart status 202 none (lit≤ tt, lit≤ tt) _ _ (
    apart status 203 none (lit≤ tt, lit≤ tt) _ _ (
    apart status 204 none (lit≤ tt, lit≤ tt) _ _ (
    apart status 205 none (lit≤ tt, lit≤ tt) _ _ (
    apart status 206 none (lit≤ tt, lit≤ tt) _ _ (
    apart status 207 none (lit≤ tt, lit≤ tt) _ _ (
    apart status 208 none (lit≤ tt, lit≤ tt) _ _ (
    apart status 226 none (lit≤ tt, lit≤ tt) _ _ (
    apart status 300 none (lit≤ tt, lit≤ tt) _ _ (
    apart status 301 none (lit≤ tt, lit≤ tt) _ _ (
    apart status 302 none (lit≤ tt, lit≤ tt) _ _ (
    apart status 303 none (lit≤ tt, lit≤ tt) _ _ (
    apart status 304 none (lit≤ tt, lit≤ tt) _ _ (
    apart status 305 none (lit≤ tt, lit≤ tt) _ _ (
    apart status 307 none (lit≤ tt, lit≤ tt) _ _ (
    apart status 308 none (lit≤ tt, lit≤ tt) _ _ (
    apart status 400 none (lit≤ tt, lit≤ tt) _ _ (
    apart status 401 none (lit≤ tt, lit≤ tt) _ _ (
    apart status 402 none (lit≤ tt, lit≤ tt) _ _ (
    apart status 403 none (lit≤ tt, lit≤ tt) _ _ (
    apart status 404 none (lit≤ tt, lit≤ tt) _ _ (
    apart status 405 none (lit≤ tt, lit≤ tt) _ _ (
    apart status 406 none (lit≤ tt, lit≤ tt) _ _ (
    apart status 407 none (lit≤ tt, lit≤ tt) _ _ (
    apart status 408 none (lit≤ tt, lit≤ tt) _ _ (
    apart status 409 none (lit≤ tt, lit≤ tt) _ _ (
    apart status 410 none (lit≤ tt, lit≤ tt) _ _ (
    apart status 411 none (lit≤ tt, lit≤ tt) _ _ (
    apart status 412 none (lit≤ tt, lit≤ tt) _ _ (
    apart status 413 none (lit≤ tt, lit≤ tt) _ _ (
    apart status 414 none (lit≤ tt, lit≤ tt) _ _ (
    apart status 415 none (lit≤ tt, lit≤ tt) _ _ (
    apart status 416 none (lit≤ tt, lit≤ tt) _ _ (
    apart status 417 none (lit≤ tt, lit≤ tt) _ _ (
    apart status 418 none (lit≤ tt, lit≤ tt) _ _ (
    apart status 421 none (lit≤ tt, lit≤ tt) _ _ (
    apart status 422 none (lit≤ tt, lit≤ tt) _ _ (
    apart status 423 none (lit≤ tt, lit≤ tt) _ _ (
    apart status 424 none (lit≤ tt, lit≤ tt) _ _ (
    apart status 425 none (lit≤ tt, lit≤ tt) _ _ (
    apart status 426 none (lit≤ tt, lit≤ tt) _ _ (
    apart status 428 none (lit≤ tt, lit≤ tt) _ _ (
    apart status 429 none (lit≤ tt, lit≤ tt) _ _ (
    apart status 431 none (lit≤ tt, lit≤ tt) _ _ (
    apart status 451 none (lit≤ tt, lit≤ tt) _ _ (
    apart status 500 none (lit≤ tt, lit≤ tt) _ _ (
    apart status 501 none (lit≤ tt, lit≤ tt) _ _ (
    apart status 502 none (lit≤ tt, lit≤ tt) _ _ (
    apart status 503 none (lit≤ tt, lit≤ tt) _ _ (
    apart status 504 none (lit≤ tt, lit≤ tt) _ _ (
    apart status 505 none (lit≤ tt, lit≤ tt) _ _ (
    apart status 506 none (lit≤ tt, lit≤ tt) _ _ (
    apart status 507 none (lit≤ tt, lit≤ tt) _ _ (
    apart status 508 none (lit≤ tt, lit≤ tt) _ _ (
    apart status 510 none (lit≤ tt, lit≤ tt) _ _ (
    apart status 511 none (lit≤ tt, lit≤ tt) _ _ (
    refl)))))))))))))))))))))))))))))))))))))))))))))))))))))))))))))))
