-- How far an event proceeds that runs out of memory (RFC 9112, section 9): it keeps the changes made so far, and does
-- nothing else.
use Rattle.std.specs.Prelude.{◌≡◌, ◌⊎◌, ℕ, false, List, [], ◌∷◌, ◌++◌, slice_get, slice_set, Some}
use Rattle.std.specs.List.{flat_map}
use Rattle.sv_journal.specs.declared.entry.Entry.{Entry}
use Rattle.sv_run.specs.Contexts.{Request, Theory, request_of}
use Rattle.sv_run.specs.Effect.{Answered, Deed, Effect, Handled}
use Rattle.sv_run.specs.Feeding.{Feeds}
use Rattle.sv_run.specs.Items.{Takes}
use Rattle.sv_run.specs.Messages.{Destination, Itself, Within, destination}
use Rattle.sv_run.specs.State.{State, World}
use Rattle.sv_wire.specs.Inbox.{Held}
use Rattle.sv_wire.specs.declared.item.Item.{Item}
use Rattle.sv_wire.specs.declared.item.Item.TheVariants.{Continue, Message, Refuse}
use Rattle.sv_message.specs.declared.message.Message.{Message as MessageRecord}
use Rattle.sv_message.specs.declared.response.Response.{Response}

-- a request that was given to the context at a place, with the context as it was at that time
pub record Given (Context : Type 0) : Type 0 where
  pub place : ℕ
  pub context : Context
  pub request : Request

-- the requests given to contexts for an answered message: none if the container answered it itself
abbrev pub given_for : {Context : Type 0} → Deed Context → List (Given Context)
given_for (Answered entry) = []
given_for (Handled place handling) = record { place = place; context = handling.context; request = handling.request } ∷ []

abbrev pub given_for_all : {Context : Type 0} → List (Deed Context) → List (Given Context)
given_for_all deeds = flat_map given_for deeds

-- no request is given, and nothing changes
abbrev pub DoesNothing : {Context A : Type 0} → A → List (Given Context) → A → Type 0
DoesNothing before given after = (given ≡ []) × (after ≡ before)

module _ {Context Words : Type 0} (theory : Theory Context Words) where
  -- memory ran out while the context handled the request, or while its response was sent
  abbrev pub IsLeftBy : Given Context → Context → Type 0
  IsLeftBy given left =
      theory.conduct.CutsShort given.context given.request left
      ⊎ ((entries : List Entry) × (response : Response)
      × theory.conduct.Handles record { context = given.context; request = given.request; entries = entries; response = response; after = left })

  -- the context at the place was given the request, and no other context has changed
  pub record BreaksAt (place : ℕ) (request : Request) (before : List Context) (given : List (Given Context)) (after : List Context) : Type 0 where
    pub context : Context
    pub there : slice_get before place ≡ Some context
    pub left : Context
    pub is_left : IsLeftBy (record { place = place; context = context; request = request }) left
    pub is_after : after ≡ slice_set before place left
    pub is_given : given ≡ record { place = place; context = context; request = request } ∷ []

  module _ (moment : ℕ) where
    -- memory ran out while a message was answered: the message was given to the context at its destination, or to none
    abbrev pub BreaksAnswer : Destination → MessageRecord → ℕ × ℕ → List Context → List (Given Context) → List Context → Type 0
    BreaksAnswer (Itself entry response) message words before given after = DoesNothing before given after
    BreaksAnswer (Within place canon) message words before given after =
        DoesNothing before given after ⊎ BreaksAt place (request_of message canon moment words) before given after

    -- memory ran out while an item was handled; a message has drawn its pair of words
    abbrev pub BreaksItem : Item → World Context Words → List (Given Context) → World Context Words → Type 0
    BreaksItem Continue before given after = DoesNothing before given after
    BreaksItem (Refuse fault) before given after = DoesNothing before given after
    BreaksItem (Message message) before given after =
        (words : ℕ × ℕ) × theory.Draws before.words words after.words
        × BreaksAnswer (destination theory before.contexts message.target) message words before.contexts given after.contexts

    -- the items before one item were handled, and memory ran out while that item was handled
    pub record BreaksItems (items : List Item) (before : World Context Words) (given : List (Given Context)) (after : World Context Words) : Type 0 where
      pub front : List Item
      pub item : Item
      pub behind : List Item
      pub are : items ≡ front ++ item ∷ behind
      pub effect : Effect Context
      pub between : World Context Words
      pub takes : Takes theory moment front before effect between
      pub is_open : effect.closes ≡ false
      pub last : List (Given Context)
      pub breaks : BreaksItem item between last after
      pub is_given : given ≡ given_for_all effect.deeds ++ last

  -- memory ran out while a piece was handled, after its items were read
  pub record BreaksPiece (before : State Context Words) (number : ℕ) (piece : List ℕ) (given : List (Given Context)) (after : World Context Words) : Type 0 where
    pub held : Held
    pub holds : before.connections.held number ≡ Some held
    pub items : List Item
    pub left : Held
    pub feeds : Feeds held piece items left
    pub breaks : BreaksItems before.moment items before.world given after
