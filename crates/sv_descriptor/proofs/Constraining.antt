-- Properties of the constraints of a descriptor that was read.
use Rattle.std.proofs.Common.{◌≡◌, ℕ, zero, suc, ◌+◌, ◌-◌, ◌<◌, ◌≤◌, Bool, codes, List, [], ◌∷◌, length, Option, Some, None, Ok, refl, ap, arith, length-append, get_or}
use Rattle.std.specs.Prelude.{is_some, not}
use Rattle.std.specs.List.{All, flat_map}
use Rattle.std.specs.Option.{IfSome}
use Rattle.std.proofs.lemmas.List.Elements.{All-cons}
use Rattle.toml.specs.Data.{Data, Members}
use Rattle.sv_constraints.specs.declared.constraint.Auth.{Auth}
use Rattle.sv_constraints.specs.declared.constraint.Auth.TheVariants as auth
use Rattle.sv_constraints.specs.declared.constraint.Transport.TheVariants as transport
use Rattle.sv_constraints.specs.declared.constraint.Collection.{Collection}
use Rattle.sv_constraints.specs.declared.constraint.Constraint.{Constraint}
use Rattle.sv_descriptor.specs.Fault.{check}
use Rattle.sv_descriptor.specs.ListOf.{list_items, list_of_texts}
use Rattle.sv_descriptor.specs.Table.{optional, optional_or, required}
use Rattle.sv_descriptor.specs.Value.{is_table, is_text, name, table_of, text_of}
use Rattle.sv_descriptor.specs.declared.fault.FaultCode.TheVariants.{BothMethodLists}
use Rattle.sv_descriptor.specs.declared.limits.TheConstants.{MAX_LIST_ITEMS}
use Rattle.sv_descriptor.specs.Fault.{within}
use Rattle.sv_descriptor.specs.declared.fault.ValueStep.TheVariants.{Item}
use Rattle.sv_descriptor.proofs.Yields.{Yields, bind-Ok, within-Ok, holds-Ok, list_of-short, table_of-yields, list_of-yields, list_items-Ok, required-Ok, optional-Ok, optional_or-Ok}
use Rattle.sv_descriptor.specs.Collection.{collection, collection_table, collections, collections_within, covered_methods, method, methods, methods_of, omitted_methods}
use Rattle.sv_constraints.specs.declared.constraint.Methods.{Methods}
use Rattle.sv_descriptor.specs.Constraint.{auth_constraint, constraint, constraints, numbered, user_data_constraint}
use Rattle.sv_descriptor.specs.Ignored.{element_keys, ignored_text}
use Rattle.sv_descriptor.specs.Pattern.{pattern, patterns}
use Rattle.sv_descriptor.specs.Tables.{tables}
use Rattle.sv_descriptor.specs.WellFormed.{AreNumbered, HasFewItems, named_methods, named_roles}
use Rattle.sv_constraints.specs.declared.constraint.TheConstants.{MAX_PATTERNS_OF_CONSTRAINT}

abbrev FewMethods : Collection → Type 0
FewMethods c = length (named_methods c.methods) ≤ MAX_LIST_ITEMS

-- The methods of a collection.
covered-short : (listed omitted : Option (List (List ℕ))) → IfSome listed (λ l. length l ≤ MAX_LIST_ITEMS) → IfSome omitted (λ l. length l ≤ MAX_LIST_ITEMS)
    → length (named_methods (covered_methods listed omitted)) ≤ MAX_LIST_ITEMS
covered-short (Some l) omitted h g = h
covered-short None (Some l) h g = g
covered-short None None h g = omega arith

methods-short : Yields (λ found. length found ≤ MAX_LIST_ITEMS) methods
methods-short = list_of-short 1 MAX_LIST_ITEMS is_text (text_of method)

omitted-short : (beside : Bool) → Yields (λ found. length found ≤ MAX_LIST_ITEMS) (omitted_methods beside)
omitted-short beside key value found e =
    bind-Ok (list_items 0 MAX_LIST_ITEMS is_text key value) _ _ e (λ _ _ e1.
    bind-Ok (check (not beside) BothMethodLists key) _ _ e1 (λ _ _ e2. methods-short key value found e2))

-- A collection with at most `room` patterns.
record IsCollection (room : ℕ) (c : Collection) : Type 0 where
  patterns : length c.patterns ≤ room
  methods : FewMethods c

methods_of-Ok : (members : Members) (m : Methods) → methods_of members ≡ Ok m → length (named_methods m) ≤ MAX_LIST_ITEMS
methods_of-Ok members m e =
    bind-Ok (optional methods (codes "http-method") members) _ _ e (λ listed listed_read e1.
    bind-Ok (optional (omitted_methods (is_some listed)) (codes "http-method-omission") members) _ _ e1 (λ omitted omitted_read e2.
    holds-Ok (λ m. length (named_methods m) ≤ MAX_LIST_ITEMS) _ m e2 (covered-short listed omitted
    (optional-Ok _ methods methods-short (codes "http-method") members listed listed_read)
    (optional-Ok _ (omitted_methods (is_some listed)) (omitted-short (is_some listed)) (codes "http-method-omission") members omitted omitted_read))))

collection-Ok : (room : ℕ) (members : Members) (c : Collection) → collection room members ≡ Ok c → IsCollection room c
collection-Ok room members c e =
    bind-Ok (element_keys (codes "web-resource-name" ∷ codes "url-pattern" ∷ codes "http-method" ∷ codes "http-method-omission" ∷ []) members) _ _ e (λ _ _ e1.
    bind-Ok (optional (text_of ignored_text) (codes "web-resource-name") members) _ _ e1 (λ _ _ e2.
    bind-Ok (required (patterns 1 room) (codes "url-pattern") members) _ _ e2 (λ its_patterns read e3.
    bind-Ok (methods_of members) _ _ e3 (λ its_methods methods_read e4.
    holds-Ok (IsCollection room) _ c e4 (record {
      patterns = required-Ok (λ found. length found ≤ room) (patterns 1 room) (list_of-short 1 room is_text (text_of pattern)) (codes "url-pattern") members its_patterns read;
      methods = methods_of-Ok members its_methods methods_read;
    })))))

collection_table-Ok : (room : ℕ) → Yields (IsCollection room) (collection_table room)
unfolding collection_table
collection_table-Ok room = table_of-yields (IsCollection room) (collection room) (collection-Ok room)

-- Collections with at most `room` patterns in all.
record AreCollections (room n : ℕ) (found : List Collection) : Type 0 where
  count : length found ≡ n
  patterns : length (flat_map (λ c. c.patterns) found) ≤ room
  methods : All FewMethods found

collections_within-Ok : (i room : ℕ) (key : List ℕ) (values : List Data) (found : List Collection) → collections_within i room key values ≡ Ok found → AreCollections room (length values) found
collections_within-Ok i room key [] found e = holds-Ok (AreCollections room 0) _ found e (record { count = refl; patterns = omega arith; methods = λ i d l. absurd (omega arith) })
collections_within-Ok i room key (value ∷ rest) found e =
    bind-Ok (within (Item i) (collection_table room key value)) _ _ e (λ c read e1.
    bind-Ok (collections_within (i + 1) (room - length c.patterns) key rest) _ _ e1 (λ others more e2.
    let one = collection_table-Ok room key value c (within-Ok (Item i) (collection_table room key value) c read) in
    let all = collections_within-Ok (i + 1) (room - length c.patterns) key rest others more in
    holds-Ok (AreCollections room (suc (length rest))) _ found e2 (record {
      count = ap suc all.count;
      patterns = let few = one.patterns in let rest = all.patterns in omega (arith, length-append c.patterns (flat_map (λ c. c.patterns) others));
      methods = All-cons FewMethods c others one.methods all.methods;
    })))

-- The collections of a constraint.
record AreFew (found : List Collection) : Type 0 where
  short : length found ≤ MAX_LIST_ITEMS
  patterns : length (flat_map (λ c. c.patterns) found) ≤ MAX_PATTERNS_OF_CONSTRAINT
  methods : All FewMethods found

collections-yields : Yields AreFew collections
collections-yields key value found e =
    bind-Ok (list_items 1 MAX_LIST_ITEMS is_table key value) _ _ e (λ items read e1.
    let all = collections_within-Ok 0 MAX_PATTERNS_OF_CONSTRAINT key items found e1 in record {
      short = let n = list_items-Ok 1 MAX_LIST_ITEMS is_table key value items read in let m = all.count in omega arith;
      patterns = all.patterns;
      methods = all.methods;
    })

auth_constraint-Ok : (members : Members) (a : Auth) → auth_constraint members ≡ Ok a → length (named_roles a) ≤ MAX_LIST_ITEMS
auth_constraint-Ok members a e =
    bind-Ok (element_keys (codes "role-name" ∷ []) members) _ _ e (λ _ _ e1.
    bind-Ok (optional_or [] (list_of_texts 0 MAX_LIST_ITEMS name) (codes "role-name") members) _ _ e1 (λ roles read e2.
    holds-Ok (λ a. length (named_roles a) ≤ MAX_LIST_ITEMS) _ a e2
    (optional_or-Ok (λ found. length found ≤ MAX_LIST_ITEMS) [] _ (omega arith) (list_of-short 0 MAX_LIST_ITEMS is_text (text_of name)) (codes "role-name") members roles read)))

constraint-Ok : (members : Members) (c : Constraint) → constraint members ≡ Ok c → HasFewItems c
constraint-Ok members c e =
    bind-Ok (element_keys (codes "web-resource-collection" ∷ codes "auth-constraint" ∷ codes "user-data-constraint" ∷ []) members) _ _ e (λ _ _ e1.
    bind-Ok (required collections (codes "web-resource-collection") members) _ _ e1 (λ found read e2.
    bind-Ok (optional_or auth.Absent (table_of auth_constraint) (codes "auth-constraint") members) _ _ e2 (λ its_auth auth_read e3.
    bind-Ok (optional_or transport.Absent (table_of user_data_constraint) (codes "user-data-constraint") members) _ _ e3 (λ _ _ e4.
    let few = required-Ok AreFew collections collections-yields (codes "web-resource-collection") members found read in
    holds-Ok HasFewItems _ c e4 (record {
      collections = few.short;
      patterns = few.patterns;
      methods = few.methods;
      roles = optional_or-Ok (λ a. length (named_roles a) ≤ MAX_LIST_ITEMS) auth.Absent (table_of auth_constraint) (omega arith)
          (table_of-yields _ auth_constraint auth_constraint-Ok) (codes "auth-constraint") members its_auth auth_read;
    })))))

-- Numbering changes only the numbers of constraints.
length-numbered : (n : ℕ) (found : List Constraint) → length (numbered n found) ≡ length found
length-numbered n [] = refl
length-numbered n (c ∷ rest) = ap suc (length-numbered (n + 1) rest)

numbered-number : (n i : ℕ) (found : List Constraint) (d : Constraint) → i < length found → (get_or (numbered n found) i d).number ≡ i + n
numbered-number n i [] d l = absurd (omega arith)
numbered-number n zero (c ∷ rest) d l = omega arith
numbered-number n (suc i) (c ∷ rest) d l = let e = numbered-number (n + 1) i rest d (omega arith) in omega arith

All-numbered : (n : ℕ) (found : List Constraint) → All HasFewItems found → All HasFewItems (numbered n found)
All-numbered n [] h = λ i d l. absurd (omega arith)
All-numbered n (c ∷ rest) h =
    let few = h 0 c (omega arith) in
    All-cons HasFewItems _ (numbered (n + 1) rest) (record { collections = few.collections; patterns = few.patterns; methods = few.methods; roles = few.roles })
    (All-numbered (n + 1) rest (λ i d l. h (suc i) d (omega arith)))

-- The constraints of a descriptor.
pub record AreConstraints (found : List Constraint) : Type 0 where
  pub short : length found ≤ MAX_LIST_ITEMS
  pub numbered : AreNumbered found
  pub few : All HasFewItems found

pub constraints-yields : Yields AreConstraints constraints
constraints-yields key value found e =
    bind-Ok (tables constraint key value) _ _ e (λ read ea e1.
    let all = list_of-yields HasFewItems 0 MAX_LIST_ITEMS is_table (table_of constraint) (table_of-yields HasFewItems constraint constraint-Ok) key value read ea in
    holds-Ok AreConstraints _ found e1 (record {
      short = let n = all.short in omega (arith, length-numbered 1 read);
      numbered = λ i d l. numbered-number 1 i read d (omega (arith, length-numbered 1 read));
      few = All-numbered 1 read all.each;
    }))
