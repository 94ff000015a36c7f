-- An open text that is cut together with the text after it.
use Rattle.std.proofs.Common.{◌≡◌, ℕ, ◌+◌, ◌-◌, ◌<◌, ◌≤◌, true, false, ◌⊎◌, List, ◌++◌, length, take, drop, min, sym, ap, ◌∙◌, inl, inr, arith, length-append}
use Rattle.std.proofs.lemmas.Bool.{cases_lt, false≢true}
use Rattle.std.proofs.lemmas.List.{append_assoc, take-append-le, drop-append-le, length-take, take-append-drop, take_all}
use Rattle.sv_text.specs.declared.front.Cut.{Cut}
use Rattle.sv_text.specs.declared.front.Cut.TheVariants.{Whole, Endless, Unended}
use Rattle.sv_wire.specs.declared.text_kind.TextKind.{TextKind}
use Rattle.sv_wire.specs.Chunks.{ends_text, text_limit, cut_text}
use Rattle.sv_wire.specs.Machine.{CutsOpen}
use Rattle.sv_text.proofs.FrontLemmas.{cut-whole, cut-append, cut_unended-fronts, Endless-inverse, Unended-inverse}
use Rattle.sv_wire.proofs.ListLemmas.{drop_behind}

module _ (kind : TextKind) (held stream : List ℕ) (here : ℕ) (unended : cut_text kind held ≡ Unended)
    (taken : here ≡ min (length stream) (text_limit kind - length held)) where
  long : length (held ++ take here stream) ≡ length held + here
  long = omega (arith, taken, length-append held (take here stream), length-take here stream)

  -- The bytes that are taken, and those after them.
  parts : (more : List ℕ) → held ++ (stream ++ more) ≡ (held ++ take here stream) ++ (drop here stream ++ more)
  parts more =
      ap (λ text. held ++ (text ++ more)) (sym (take-append-drop here stream))
      ∙ ap (λ text. held ++ text) (append_assoc (take here stream) (drop here stream) more)
      ∙ sym (append_assoc held (take here stream) (drop here stream ++ more))

  limit_fits : length held < text_limit kind
  limit_fits = (Unended-inverse (text_limit kind) held _ unended).1

  -- No front of the bytes received before ends the text.
  pub fronts_open : (k : ℕ) → k < length held + 1 → ends_text kind (take k (held ++ take here stream)) ≡ false
  fronts_open k below =
      ap (ends_text kind) (take-append-le k held (take here stream) (omega arith))
      ∙ cut_unended-fronts (ends_text kind) (text_limit kind) held unended k (omega arith)

  pub within : length (held ++ take here stream) ≤ text_limit kind
  within = omega (arith, long, taken, limit_fits)

  ends_behind : (len : ℕ) → cut_text kind (held ++ take here stream) ≡ Whole len → length held < len
  ends_behind len is = by_order (cases_lt (length held) len)
    where
      passes : ends_text kind (take len (held ++ take here stream)) ≡ true
      passes = ap (λ text. ends_text kind (take len text)) (sym (take_all (text_limit kind) (held ++ take here stream) within))
          ∙ (cut-whole (ends_text kind) (text_limit kind) (held ++ take here stream) len is).passes

      by_order : (length held < len) ⊎ (len ≤ length held) → length held < len
      by_order (inl behind) = behind
      by_order (inr before) = absurd (false≢true (sym (fronts_open len (omega arith)) ∙ passes))

  stays : (more : List ℕ) (c : Cut) → (c ≡ Unended → ⊥) → cut_text kind (held ++ take here stream) ≡ c
      → cut_text kind (held ++ (stream ++ more)) ≡ c
  stays more c made is =
      ap (cut_text kind) (parts more)
      ∙ by_cut (cut-append (ends_text kind) (text_limit kind) (held ++ take here stream) (drop here stream ++ more) c is)
    where
      by_cut : (c ≡ Unended) ⊎ (cut_text kind ((held ++ take here stream) ++ (drop here stream ++ more)) ≡ c)
          → cut_text kind ((held ++ take here stream) ++ (drop here stream ++ more)) ≡ c
      by_cut (inl unended) = absurd (made unended)
      by_cut (inr same) = same

  whole_fits : (len : ℕ) → cut_text kind (held ++ take here stream) ≡ Whole len → len ≤ length (held ++ take here stream)
  whole_fits len is =
      omega (arith, (cut-whole (ends_text kind) (text_limit kind) (held ++ take here stream) len is).fits, length-take (text_limit kind) (held ++ take here stream))

  pub cuts_open : (found : Cut) → found ≡ cut_text kind (held ++ take here stream) → CutsOpen kind held stream (held ++ take here stream) found
  cuts_open (Whole len) is =
      let behind = ends_behind len (sym is) in
      let fits = whole_fits len (sym is) in
      let inside : len - length held ≤ length stream = omega (arith, fits, long, taken) in (
        behind,
        fits,
        inside,
        λ more. (
          stays more (Whole len) (λ same. cc) (sym is),
          ap (take len) (parts more) ∙ take-append-le len (held ++ take here stream) (drop here stream ++ more) fits,
          drop_behind held (stream ++ more) len (len - length held) (omega (arith, behind))
              ∙ drop-append-le (len - length held) stream more inside,
        ),
      )
  cuts_open Endless is =
      let fits = (Endless-inverse (text_limit kind) (held ++ take here stream) _ (sym is)).1 in
      let inside : text_limit kind - length held ≤ length stream = omega (arith, fits, long, taken) in (
        omega (arith, limit_fits),
        inside,
        λ more. (
          stays more Endless (λ same. cc) (sym is),
          drop_behind held (stream ++ more) (text_limit kind) (text_limit kind - length held) (omega (arith, limit_fits))
              ∙ drop-append-le (text_limit kind - length held) stream more inside,
        ),
      )
  cuts_open Unended is =
      let short = (Unended-inverse (text_limit kind) (held ++ take here stream) _ (sym is)).1 in
      (ap (λ text. held ++ text) (take_all here stream (omega (arith, short, long, taken))), sym is)
