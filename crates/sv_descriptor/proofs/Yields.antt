-- Properties of all values that are read.
use Rattle.std.proofs.Common.{◌≡◌, ℕ, suc, ◌+◌, ◌≤◌, ℤ, Bool, true, false, List, [], ◌∷◌, length, Option, Some, None, Result, Ok, Err, if◌then◌else◌, not, refl, sym, ap, ◌∙◌, subst, arith, nat_lt}
use Rattle.std.specs.List.{All, list_all}
use Rattle.std.specs.Option.{IfSome}
use Rattle.std.specs.Result.{IfOk}
use Rattle.sv_text.specs.Gives.{Gives}
use Rattle.toml.specs.Parse.{parse_document}
use Rattle.sv_descriptor.specs.Document.{document, parsed}
use Rattle.sv_descriptor.specs.declared.fault.LocatedReadFault.{LocatedReadFault}
use Rattle.sv_descriptor.specs.declared.fault.ValueStep.{ValueStep}
use Rattle.sv_descriptor.specs.declared.fault.ValueStep.TheVariants.{Key, Item}
use Rattle.std.proofs.lemmas.Bool.Decides.{nat_tests}
use Rattle.std.proofs.lemmas.List.Elements.{All-cons}
use Rattle.toml.specs.Data.{Data, string, integer, float, boolean, datetime, array, table, Members, get_member}
use Rattle.sv_text.specs.Steps.{◌>>=◌}
use Rattle.sv_descriptor.specs.Fault.{Located, located_fault, refuse, check_at, item_key, within}
use Rattle.sv_descriptor.specs.ListOf.{each_from, items_list, list_items, list_of}
use Rattle.sv_descriptor.specs.Table.{optional, optional_or, optional_value, or_else, required, required_value}
use Rattle.sv_descriptor.specs.Value.{Reader, table_of, text_of, whole_of}
use Rattle.sv_descriptor.specs.declared.fault.FaultCode.{FaultCode}
use Rattle.sv_descriptor.specs.Names.{distinct, first_repeat, repeats}
use Rattle.sv_descriptor.specs.declared.fault.FaultCode.TheVariants.{WrongType, BadValue, TooMany, DuplicateName}

-- The steps of a successful reading.
pub bind-Ok : {A B C : Type 0} (first : Located A) (next : A → Located B) (b : B) → (first >>= next) ≡ Ok b → ((a : A) → first ≡ Ok a → next a ≡ Ok b → C) → C
bind-Ok (Ok a) next b h k = k a refl h
bind-Ok (Err f) next b h k = cc

-- A value read one step further down.
pub within-Ok : {A : Type 0} (step : ValueStep) (reading : Located A) (a : A) → within step reading ≡ Ok a → reading ≡ Ok a
within-Ok step (Ok b) a h = h
within-Ok step (Err f) a h = cc

-- A property of the value of a successful reading.
pub holds-Ok : {A : Type 0} (P : A → Type 0) (reading : Located A) (a : A) → reading ≡ Ok a → IfOk reading P → P a
holds-Ok P (Ok b) a e h = let same : b ≡ a = cc in subst P same h
holds-Ok P (Err f) a e h = cc

pub check_at-Ok : (holds : Bool) (code : FaultCode) (key : List ℕ) (steps : List ValueStep) (u : Unit {0}) → check_at holds code key steps ≡ Ok u → holds ≡ true
check_at-Ok true code key steps u h = refl
check_at-Ok false code key steps u h = cc

pub not-true : (b : Bool) → not b ≡ true → b ≡ false
not-true true h = cc
not-true false h = refl

pub distinct-Ok : (list key : List ℕ) (names : List (List ℕ)) (u : Unit {0}) → distinct list key names ≡ Ok u → repeats names ≡ false
distinct-Ok list key names u h = not-true _ (check_at-Ok (not (repeats names)) DuplicateName key (item_key list (first_repeat names) key) u h)

-- P holds for all values that are read.
abbrev pub Yields : {A : Type 0} → (A → Type 0) → Reader A → Type 0
Yields {A} P reads = (key : List ℕ) (value : Data) (a : A) → reads key value ≡ Ok a → P a

module _ {A : Type 0} (P : A → Type 0) where
  pub text_of-yields : (reads : List ℕ → List ℕ → Located A) → ((key text : List ℕ) (a : A) → reads key text ≡ Ok a → P a) → Yields P (text_of reads)
  text_of-yields reads h key (string text) a e = h key text a e
  text_of-yields reads h key (integer n) a e = cc
  text_of-yields reads h key (float x) a e = cc
  text_of-yields reads h key (boolean b) a e = cc
  text_of-yields reads h key (datetime d) a e = cc
  text_of-yields reads h key (array ds) a e = cc
  text_of-yields reads h key (table ms) a e = cc

  pub whole_of-yields : (reads : List ℕ → ℤ → Located A) → ((key : List ℕ) (n : ℤ) (a : A) → reads key n ≡ Ok a → P a) → Yields P (whole_of reads)
  whole_of-yields reads h key (integer n) a e = h key n a e
  whole_of-yields reads h key (string text) a e = cc
  whole_of-yields reads h key (float x) a e = cc
  whole_of-yields reads h key (boolean b) a e = cc
  whole_of-yields reads h key (datetime d) a e = cc
  whole_of-yields reads h key (array ds) a e = cc
  whole_of-yields reads h key (table ms) a e = cc

  pub table_of-yields : (reads : Members → Located A) → ((members : Members) (a : A) → reads members ≡ Ok a → P a) → Yields P (table_of reads)
  table_of-yields reads h key (table ms) a e = h ms a e
  table_of-yields reads h key (string text) a e = cc
  table_of-yields reads h key (integer n) a e = cc
  table_of-yields reads h key (float x) a e = cc
  table_of-yields reads h key (boolean b) a e = cc
  table_of-yields reads h key (datetime d) a e = cc
  table_of-yields reads h key (array ds) a e = cc

  required_value-Ok : (reads : Reader A) → Yields P reads → (key : List ℕ) (value : Option Data) (a : A) → required_value reads key value ≡ Ok a → P a
  required_value-Ok reads h key None a e = cc
  required_value-Ok reads h key (Some value) a e = h key value a (within-Ok (Key key) (reads key value) a e)

  pub required-Ok : (reads : Reader A) → Yields P reads → (key : List ℕ) (members : Members) (a : A) → required reads key members ≡ Ok a → P a
  required-Ok reads h key members a e = required_value-Ok reads h key (get_member key members) a e

  optional_value-Ok : (reads : Reader A) → Yields P reads → (key : List ℕ) (value : Option Data) (a : Option A) → optional_value reads key value ≡ Ok a → IfSome a P
  optional_value-Ok reads h key None (Some a) e = cc
  optional_value-Ok reads h key None None e = tt
  optional_value-Ok reads h key (Some value) None e = tt
  optional_value-Ok reads h key (Some value) (Some a) e =
      bind-Ok (within (Key key) (reads key value)) _ _ e (λ b eb eq. let same : b ≡ a = cc in subst P same (h key value b (within-Ok (Key key) (reads key value) b eb)))

  pub optional-Ok : (reads : Reader A) → Yields P reads → (key : List ℕ) (members : Members) (a : Option A) → optional reads key members ≡ Ok a → IfSome a P
  optional-Ok reads h key members a e = optional_value-Ok reads h key (get_member key members) a e

  or_else-holds : (other : A) (a : Option A) → P other → IfSome a P → P (or_else other a)
  or_else-holds other None p q = p
  or_else-holds other (Some a) p q = q

  pub optional_or-Ok : (other : A) (reads : Reader A) → P other → Yields P reads → (key : List ℕ) (members : Members) (a : A) → optional_or other reads key members ≡ Ok a → P a
  optional_or-Ok other reads p h key members a e =
      bind-Ok (optional reads key members) _ _ e (λ found ef eq.
      let same : or_else other found ≡ a = cc in
      subst P same (or_else-holds other found p (optional-Ok reads h key members found ef)))

  each-All : (reads : Data → Located A) → ((value : Data) (a : A) → reads value ≡ Ok a → P a) → (i : ℕ) (values : List Data) (found : List A) → each_from i reads values ≡ Ok found → All P found
  each-All reads h i [] found e = let same : [] ≡ found = cc in subst (All P) same (λ k d l. absurd (omega arith))
  each-All reads h i (value ∷ rest) found e =
      bind-Ok (within (Item i) (reads value)) _ _ e (λ a ea er.
      bind-Ok (each_from (i + 1) reads rest) _ _ er (λ others eo eq.
      let same : a ∷ others ≡ found = cc in
      subst (All P) same (All-cons P a others (h value a (within-Ok (Item i) (reads value) a ea)) (each-All reads h (i + 1) rest others eo))))

each-length : {A : Type 0} (reads : Data → Located A) (i : ℕ) (values : List Data) (found : List A) → each_from i reads values ≡ Ok found → length found ≡ length values
each-length reads i [] found e = let same : [] ≡ found = cc in ap length (sym same)
each-length reads i (value ∷ rest) found e =
    bind-Ok (within (Item i) (reads value)) _ _ e (λ a ea er.
    bind-Ok (each_from (i + 1) reads rest) _ _ er (λ others eo eq.
    let same : a ∷ others ≡ found = cc in
    ap length (sym same) ∙ ap suc (each-length reads (i + 1) rest others eo)))

sized-at : (other : Bool) (short : Bool) (least most : ℕ) (key : List ℕ) (items found : List Data) → nat_lt most (length items) ≡ other
    → (if other then refuse TooMany key else if short then refuse BadValue key else Ok items) ≡ Ok found → (items ≡ found) × (length items ≤ most)
sized-at true short least most key items found o e = cc
sized-at false true least most key items found o e = cc
sized-at false false least most key items found o e = (cc, grind (arith, nat_tests))

sized_items-Ok : (fit : Bool) (least most : ℕ) (fits : Data → Bool) (key : List ℕ) (items found : List Data) → list_all fits items ≡ fit
    → (if not fit then refuse WrongType key else if nat_lt most (length items) then refuse TooMany key else if nat_lt (length items) least then refuse BadValue key else Ok items) ≡ Ok found
    → length found ≤ most
sized_items-Ok true least most fits key items found f e = let (same, short) = sized-at (nat_lt most (length items)) (nat_lt (length items) least) least most key items found refl e in subst (λ l. length l ≤ most) same short
sized_items-Ok false least most fits key items found f e = cc

-- The length of a list that was read is at most its limit.
pub list_items-Ok : (least most : ℕ) (fits : Data → Bool) (key : List ℕ) (value : Data) (found : List Data) → list_items least most fits key value ≡ Ok found → length found ≤ most
list_items-Ok least most fits key (array items) found e = sized_items-Ok (list_all fits (items_list items)) least most fits key (items_list items) found refl e
list_items-Ok least most fits key (string text) found e = cc
list_items-Ok least most fits key (integer n) found e = cc
list_items-Ok least most fits key (float x) found e = cc
list_items-Ok least most fits key (boolean b) found e = cc
list_items-Ok least most fits key (datetime d) found e = cc
list_items-Ok least most fits key (table ms) found e = cc

-- A list that was read: its length, and each of its items.
pub record IsListOf {A : Type 0} (P : A → Type 0) (most : ℕ) (found : List A) : Type 0 where
  pub short : length found ≤ most
  pub each : All P found

pub list_of-yields : {A : Type 0} (P : A → Type 0) (least most : ℕ) (fits : Data → Bool) (reads : Reader A) → Yields P reads → Yields (IsListOf P most) (list_of least most fits reads)
list_of-yields P least most fits reads h key value found e =
    bind-Ok (list_items least most fits key value) _ _ e (λ items ei ee. record {
      short = let n = list_items-Ok least most fits key value items ei in let m = each-length (reads key) 0 items found ee in omega arith;
      each = each-All P (reads key) (h key) 0 items found ee;
    })

-- The length of a list that was read is at most its limit.
pub list_of-short : {A : Type 0} (least most : ℕ) (fits : Data → Bool) (reads : Reader A) → Yields (λ found. length found ≤ most) (list_of least most fits reads)
list_of-short least most fits reads key value found e = (list_of-yields (λ _. Unit {0}) least most fits reads (λ _ _ _ _. tt) key value found e).short

-- A property of all values that the definition gives holds for all values returned.
pub IfOk-Gives : {A : Type 0} (P : A → Type 0) (result : Result A LocatedReadFault) (answer : Located A) → ((a : A) → answer ≡ Ok a → P a) → Gives located_fault result answer → IfOk result P
IfOk-Gives P (Ok a) answer h given = h a given
IfOk-Gives P (Err e) answer h given = tt

-- A property of all values read from tables holds for all values read from documents.
pub document-Ok : {A : Type 0} (P : A → Type 0) (reads : Members → Located A) → ((members : Members) (a : A) → reads members ≡ Ok a → P a) → (text : List ℕ) (a : A) → document reads text ≡ Ok a → P a
document-Ok P reads h text a e = bind-Ok (parsed (parse_document text)) _ _ e (λ members _ e1. h members a e1)
