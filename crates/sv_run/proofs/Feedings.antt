-- Cut pieces.
use Rattle.std.proofs.Common.{◌≡◌, ℕ, Bool, true, false, ◌||◌, ◌⊎◌, List, [], ◌∷◌, ◌++◌, Option, None, refl, sym, ap, ◌∙◌, subst, inl, inr, append_assoc, append-nil}
use Rattle.std.specs.Bool.{MatchBool}
use Rattle.std.proofs.lemmas.Bool.{MatchBool-at_true}
use Rattle.std.proofs.lemmas.List.Folds.{list_any-append}
use Rattle.sv_wire.proofs.BoolLemmas.{MatchBool-from_true, MatchBool-from_false}
use Rattle.sv_wire.specs.declared.item.Item.{Item}
use Rattle.sv_wire.specs.declared.owed_head.OwedHead.{OwedHead}
use Rattle.sv_wire.specs.Inbox.{Held}
use Rattle.sv_wire.specs.Items.{is_last, are_ended}
use Rattle.sv_wire.specs.Reads.{Reads}
use Rattle.sv_wire.proofs.ReadsLemmas.{gives_more, readings_join, readings_are_unique, readings_split_at_a_cut}
use Rattle.sv_run.specs.Laws.{FeedsInParts}
use Rattle.sv_run.specs.Feeding.{Feeds, FeedsWhere, held_where}

-- once an item has ended the reading, further bytes change nothing
pub readings_that_end_stay : (owed : Option OwedHead) (first second : List ℕ) (items : List Item) (left : Option OwedHead) (rest : List ℕ)
    → are_ended items ≡ true → Reads owed first items left rest → Reads owed (first ++ second) items left rest
readings_that_end_stay owed first second [] left rest ends reads = absurd (cc)
readings_that_end_stay owed first second (item ∷ items) left rest ends reads = (
  reads.0,
  reads.1 ++ second,
  gives_more owed first second item reads.0 reads.1 reads.2,
  by_last (is_last item) refl reads.3 (readings_that_end_stay reads.0 reads.1 second items left rest),
)
  where
    by_last : (t : Bool) → is_last item ≡ t
        → MatchBool t ((items ≡ []) × (left ≡ None) × (rest ≡ [])) (Reads reads.0 reads.1 items left rest)
        → (are_ended items ≡ true → Reads reads.0 reads.1 items left rest → Reads reads.0 (reads.1 ++ second) items left rest)
        → MatchBool t ((items ≡ []) × (left ≡ None) × (rest ≡ [])) (Reads reads.0 (reads.1 ++ second) items left rest)
    by_last true last none later = none
    by_last false goes_on behind later = later (subst (λ t. (t || are_ended items) ≡ true) goes_on ends) behind

-- if nothing more is read
feeds_spent : (before : Held) (piece : List ℕ) → before.spent ≡ true → Feeds before piece [] before
feeds_spent before piece spent = MatchBool-from_true before.spent _ _ spent (refl, refl)

module _ (before after : Held) (first second : List ℕ) (items : List Item) where
  pub feeds_in_parts : Feeds before (first ++ second) items after → FeedsInParts before first second items after
  feeds_in_parts feeds = by_spent before.spent refl feeds
    where
      by_split : before.spent ≡ false → after.spent ≡ are_ended items
          → ((are_ended items ≡ true) × Reads before.owed (before.rest ++ first) items after.owed after.rest)
          ⊎ ((front : List Item) × (more : List Item) × (next : Option OwedHead) × (between : List ℕ)
          × (items ≡ front ++ more) × (are_ended front ≡ false)
          × Reads before.owed (before.rest ++ first) front next between × Reads next (between ++ second) more after.owed after.rest)
          → FeedsInParts before first second items after
      by_split goes_on spent (inl ended) = (
        items,
        [],
        after,
        MatchBool-from_false before.spent _ _ goes_on (ended.1, spent),
        feeds_spent after second (spent ∙ ended.0),
        sym (append-nil items),
      )
      by_split goes_on spent (inr split) = (
        split.0,
        split.1,
        record { spent = false; owed = split.2; rest = split.3 },
        MatchBool-from_false before.spent _ _ goes_on (split.6, sym split.5),
        (
          split.7,
          spent ∙ ap are_ended split.4 ∙ list_any-append is_last split.0 split.1 ∙ ap (λ t. t || are_ended split.1) split.5,
        ),
        split.4,
      )

      by_spent : (t : Bool) → before.spent ≡ t
          → MatchBool t ((items ≡ []) × (after ≡ before))
          (Reads before.owed (before.rest ++ (first ++ second)) items after.owed after.rest × (after.spent ≡ are_ended items))
          → FeedsInParts before first second items after
      by_spent true spent none =
          ([], [], before, feeds_spent before first spent, MatchBool-from_true before.spent _ _ spent (refl, none.1), none.0)
      by_spent false goes_on reads =
          by_split goes_on reads.1
          (readings_split_at_a_cut before.owed (before.rest ++ first) second items after.owed after.rest
          (subst (λ text. Reads before.owed text items after.owed after.rest) (sym (append_assoc before.rest first second)) reads.0))

  pub feeds_whole : FeedsInParts before first second items after → Feeds before (first ++ second) items after
  feeds_whole parts = by_spent before.spent refl parts.3
    where
      by_between : (t : Bool) → parts.2.spent ≡ t → before.spent ≡ false
          → Reads before.owed (before.rest ++ first) parts.0 parts.2.owed parts.2.rest → parts.2.spent ≡ are_ended parts.0
          → MatchBool t ((parts.1 ≡ []) × (after ≡ parts.2))
          (Reads parts.2.owed (parts.2.rest ++ second) parts.1 after.owed after.rest × (after.spent ≡ are_ended parts.1))
          → Reads before.owed ((before.rest ++ first) ++ second) items after.owed after.rest × (after.spent ≡ are_ended items)
      by_between true spent goes_on reads ended none =
          let same : items ≡ parts.0 = parts.5 ∙ ap (λ more. parts.0 ++ more) none.0 ∙ append-nil parts.0 in (
            subst (λ is. Reads before.owed ((before.rest ++ first) ++ second) is after.owed after.rest) (sym same)
                (subst (λ (h : Held). Reads before.owed ((before.rest ++ first) ++ second) parts.0 h.owed h.rest) (sym none.1)
                (readings_that_end_stay before.owed (before.rest ++ first) second parts.0 parts.2.owed parts.2.rest (sym ended ∙ spent) reads)),
            ap (λ (h : Held). h.spent) none.1 ∙ ended ∙ ap are_ended (sym same),
          )
      by_between false spent goes_on reads ended later =
          let going : are_ended parts.0 ≡ false = sym ended ∙ spent in (
            subst (λ is. Reads before.owed ((before.rest ++ first) ++ second) is after.owed after.rest) (sym parts.5)
                (readings_join before.owed (before.rest ++ first) second parts.0 parts.1 parts.2.owed parts.2.rest after.owed after.rest going reads later.0),
            later.1 ∙ ap (λ t. t || are_ended parts.1) (sym going) ∙ sym (list_any-append is_last parts.0 parts.1) ∙ ap are_ended (sym parts.5),
          )

      by_spent : (t : Bool) → before.spent ≡ t
          → MatchBool t ((parts.0 ≡ []) × (parts.2 ≡ before)) (Reads before.owed (before.rest ++ first) parts.0 parts.2.owed parts.2.rest × (parts.2.spent ≡ are_ended parts.0))
          → Feeds before (first ++ second) items after
      by_spent true spent none =
          let ended = MatchBool-at_true _ _ (ap (λ (h : Held). h.spent) none.1 ∙ spent) parts.4 in
          MatchBool-from_true before.spent _ _ spent (parts.5 ∙ (λ i. none.0 i ++ ended.0 i), ended.1 ∙ none.1)
      by_spent false goes_on reads =
          let whole = by_between parts.2.spent refl goes_on reads.0 reads.1 parts.4 in
          MatchBool-from_false before.spent _ _ goes_on
          (subst (λ text. Reads before.owed text items after.owed after.rest) (append_assoc before.rest first second) whole.0, whole.1)

-- if a piece completes no item, it completes none in any other reading
pub feeds_nothing : (before one other : Held) (piece : List ℕ) (items : List Item) → Feeds before piece [] one → Feeds before piece items other → items ≡ []
feeds_nothing before one other piece items none some = by_spent before.spent refl none some
  where
    by_spent : (t : Bool) → before.spent ≡ t
        → MatchBool t ((◌≡◌ {A = List Item} [] []) × (one ≡ before)) (Reads before.owed (before.rest ++ piece) [] one.owed one.rest × (one.spent ≡ are_ended []))
        → MatchBool t ((items ≡ []) × (other ≡ before)) (Reads before.owed (before.rest ++ piece) items other.owed other.rest × (other.spent ≡ are_ended items))
        → items ≡ []
    by_spent true spent first second = second.0
    by_spent false goes_on first second =
        sym (readings_are_unique before.owed (before.rest ++ piece) [] items one.owed one.rest other.owed other.rest first.0 second.0).0

-- the piece is read whole, and the connection stays open
pub feeds_where : (before after : Held) (piece : List ℕ) (items : List Item) → Feeds before piece items after → FeedsWhere false before piece items after
feeds_where before after piece items feeds =
    record { part = piece; unread = []; is_piece = sym (append-nil piece); is_all = λ stays. refl; left = after; feeds = feeds; is_after = refl }

-- if the connection stays open, the piece is read whole
pub where_all : (closes : Bool) (before after : Held) (piece : List ℕ) (items : List Item) → closes ≡ false → FeedsWhere closes before piece items after
    → Feeds before piece items after
where_all closes before after piece items stays fed =
    subst (λ text. Feeds before text items after) (sym (fed.is_piece ∙ ap (λ more. fed.part ++ more) (fed.is_all stays) ∙ append-nil fed.part))
    (subst (λ h. Feeds before fed.part items h) (sym (fed.is_after ∙ ap (λ t. held_where t fed.left) stays)) fed.feeds)

-- if a piece completes no item, a part of it completes none
pub where_nothing : (closes : Bool) (before one other : Held) (piece : List ℕ) (items : List Item) → Feeds before piece [] one → FeedsWhere closes before piece items other
    → items ≡ []
where_nothing closes before one other piece items none some =
    let parts = feeds_in_parts before one some.part some.unread [] (subst (λ text. Feeds before text [] one) some.is_piece none) in
    feeds_nothing before parts.2 some.left some.part items
    (subst (λ front. Feeds before some.part front parts.2) (first_none parts.0 parts.1 parts.5) parts.3) some.feeds
  where
    first_none : (front more : List Item) → [] ≡ front ++ more → front ≡ []
    first_none [] more are = refl
    first_none (item ∷ front) more are = absurd (cc)
