-- Programs over relations. Each leads from a state, by the given calls of components, to a state with a result, or with
-- none if memory ran out. Definitions use `do`, with one step per line.
use Rattle.std.specs.Prelude.{◌≡◌, ◌⊎◌, Bool, true, false, List, [], ◌++◌, Option, None, Some}
use Rattle.sv_component.specs.Runs.{Record}
use Rattle.sv_exchange.specs.Changing.{Change, answer, left_by}
use Rattle.sv_exchange.specs.Dispatches.{Leaves}
use Rattle.sv_tree.specs.State.{Exchange, State, on_exchange, with_exchange}

abbrev pub Does : Type 0 → Type 1
Does A = State → List Record → State → Option A → Type 0

-- The first program gave a result, and the next continued from there.
pub record Then {A B : Type 0} (first : Does A) (next : A → Does B) (before : State) (calls : List Record) (after : State) (result : Option B) : Type 0 where
  pub given : A
  pub between : State
  pub front : List Record
  pub back : List Record
  pub begins : first before front between (Some given)
  pub goes_on : next given between back after result
  pub is_joined : calls ≡ front ++ back

infixl 1 ◌>>=◌
infixl 1 ◌>>◌
-- Two programs in sequence. Nothing follows if memory ran out in the first.
abbrev pub ◌>>=◌ : {A B : Type 0} → Does A → (A → Does B) → Does B
◌>>=◌ first next before calls after result = Then first next before calls after result ⊎ (first before calls after None × (result ≡ None))

abbrev pub ◌>>◌ : {A B : Type 0} → Does A → Does B → Does B
◌>>◌ first next = ◌>>=◌ first (λ _. next)

-- A program without runs.
abbrev pub never : {A : Type 0} → Does A
never before calls after result = ⊥

-- Does nothing and gives this result.
abbrev pub gives : {A : Type 0} → A → Does A
gives value before calls after result = (calls ≡ []) × (after ≡ before) × (result ≡ Some value)

-- Does nothing, since memory ran out.
abbrev pub refuses : {A : Type 0} → Does A
refuses before calls after result = (calls ≡ []) × (after ≡ before) × (result ≡ None)

-- Does nothing, but memory may run out.
abbrev pub wants_memory : Does (Unit {0})
wants_memory before calls after result = (calls ≡ []) × (after ≡ before)

-- The next program depends on the state.
abbrev pub sees : {A : Type 0} → (State → Does A) → Does A
sees next before = next before before

abbrev pub choose : {A : Type 0} → Bool → Does A → Does A → Does A
choose true first other = first
choose false first other = other

-- Changes the state.
abbrev pub becomes : (State → State) → Does (Unit {0})
becomes change before calls after result = (calls ≡ []) × (after ≡ change before) × (result ≡ Some tt)

-- Changes the state, or runs out of memory and changes nothing.
abbrev pub tries : (State → State) → Does (Unit {0})
tries change before calls after result =
    (calls ≡ []) × (((after ≡ change before) × (result ≡ Some tt)) ⊎ ((after ≡ before) × (result ≡ None)))

-- A changing call made by the container. It has the same effect as for a component, and none if a component's call
-- would be ignored or fail.
abbrev pub makes : Change → Does (Unit {0})
makes change = tries (on_exchange (λ exchange. left_by (answer change exchange) change exchange))

-- The innermost dispatch ends.
abbrev pub leaves : Does (Unit {0})
leaves before calls after result =
    (exchange : Exchange) × Leaves before.exchange exchange
    × (calls ≡ []) × (after ≡ with_exchange exchange before) × (result ≡ Some tt)
