-- Responses of the file servlet, composed of parts.
use Rattle.std.proofs.Common.{◌≡◌, inl, inr, ℕ, Bool, true, false, List, [], ◌++◌, Option, None, Some, refl, sym, ap, ◌∙◌, subst, append_assoc}
use Rattle.std.specs.Prelude.{codes, length}
use Rattle.sv_component.specs.Runs.{Record}
use Rattle.sv_dispatch.specs.Did.{Frame, staying}
use Rattle.sv_dispatch.specs.Seen.{offers}
use Rattle.sv_exchange.specs.Changing.{SetHeader, SetStatus, Write, has_room}
use Rattle.sv_tree.specs.Does.{Does, ◌>>◌, becomes, choose, gives, makes, sees}
use Rattle.sv_tree.specs.Endings.{faults}
use Rattle.sv_tree.specs.Files.{Sends, SendsTo, emptied}
use Rattle.sv_tree.specs.Site.{Site}
use Rattle.sv_tree.specs.declared.site.Resource.TheVariants.{Files}
use Rattle.sv_tree.specs.State.{State, on_exchange}
use Rattle.sv_tree.specs.declared.finished.DispatchFault.TheVariants.{TooLarge}
use Rattle.sv_tree.specs.declared.finished.Finished.{Finished}
use Rattle.sv_tree.specs.declared.finished.Finished.TheVariants.{Done}
use Rattle.sv_tree.specs.declared.limits.TheConstants.{FOUND}
use Rattle.sv_dispatch.proofs.Deeds.{Makes, did_give, did_not, did_then}

module _ {M : Type 0} (state : M → State) (frame : M → Frame) (ran : M → List Record → M → Type 0) (site : Site) where
  -- The rest of the action, after the content type is set.
  abbrev Body : List ℕ → Does Finished
  Body bytes = sees λ state. choose (has_room (length bytes) state.exchange) (makes (Write bytes) >> gives Done) (faults site Files TooLarge)

  written : (bytes : List ℕ) (x y : State) (made : List Record) → (makes (Write bytes) >> gives true) x made y (Some true) → (makes (Write bytes) >> gives Done) x made y (Some Done)
  written bytes x y made (inl t) = inl record {
    given = t.given;
    between = t.between;
    front = t.front;
    back = t.back;
    begins = t.begins;
    goes_on = (t.goes_on.0, t.goes_on.1, refl);
    is_joined = t.is_joined;
  }
  written bytes x y made (inr t) = absurd_some t.1
    where
      absurd_some : {P : Type 0} → Some true ≡ None → P
      absurd_some e = cc

  refused : (bytes : List ℕ) (x y : State) (made : List Record) → (makes (Write bytes) >> gives true) x made y None → (makes (Write bytes) >> gives Done) x made y None
  refused bytes x y made (inl t) = absurd_none t.goes_on.2
    where
      absurd_none : {P : Type 0} → None ≡ Some true → P
      absurd_none e = cc
  refused bytes x y made (inr t) = inr (t.0, refl)

  not_written : {P : Type 0} (bytes : List ℕ) (x y : State) (made : List Record) → (makes (Write bytes) >> gives true) x made y (Some false) → P
  not_written bytes x y made (inl t) = absurd_true t.goes_on.2
    where
      absurd_true : {P : Type 0} → Some false ≡ Some true → P
      absurd_true e = cc
  not_written bytes x y made (inr t) = absurd_some t.1
    where
      absurd_some : {P : Type 0} → Some false ≡ None → P
      absurd_some e = cc

  offered : (room : Bool) (bytes : List ℕ) (x y : State) (made : List Record) → choose room (makes (Write bytes) >> gives true) (gives false) x made y (Some true)
      → choose room (makes (Write bytes) >> gives Done) (faults site Files TooLarge) x made y (Some Done)
  offered true bytes x y made h = written bytes x y made h
  offered false bytes x y made h = absurd_false h.2
    where
      absurd_false : {P : Type 0} → Some true ≡ Some false → P
      absurd_false e = cc

  offer_refused : (room : Bool) (bytes : List ℕ) (x y : State) (made : List Record) → choose room (makes (Write bytes) >> gives true) (gives false) x made y None
      → choose room (makes (Write bytes) >> gives Done) (faults site Files TooLarge) x made y None
  offer_refused true bytes x y made h = refused bytes x y made h
  offer_refused false bytes x y made h = absurd_none h.2
    where
      absurd_none : {P : Type 0} → None ≡ Some false → P
      absurd_none e = cc

  -- Nothing is written if the body has no room for the bytes.
  untaken : (room : Bool) (bytes : List ℕ) (x y : State) (made : List Record) → choose room (makes (Write bytes) >> gives true) (gives false) x made y (Some false)
      → (room ≡ false) × (made ≡ []) × (y ≡ x)
  untaken true bytes x y made h = not_written bytes x y made h
  untaken false bytes x y made h = (refl, h.0, h.1)

  failed : (room : Bool) (bytes : List ℕ) (x y z : State) (one two : List Record) (result : Option Finished) → (room ≡ false) × (one ≡ []) × (y ≡ x)
      → faults site Files TooLarge y two z result
      → choose room (makes (Write bytes) >> gives Done) (faults site Files TooLarge) x (one ++ two) z result
  failed room bytes x y z one two result none did =
      subst (λ room. choose room (makes (Write bytes) >> gives Done) (faults site Files TooLarge) x (one ++ two) z result) (sym none.0)
      (subst (λ one. faults site Files TooLarge x (one ++ two) z result) (sym none.1)
      (subst (λ y. faults site Files TooLarge y two z result) none.2 did))

  module _ (content_type bytes : List ℕ) (a b c : M) (typed : Makes state frame ran (makes (SetHeader (codes "content-type") content_type)) a b (Some tt)) where
    whole_of : Makes state frame ran (offers bytes) b c (Some true) → Makes state frame ran (Body bytes) b c (Some Done)
    whole_of did = record {
      made = did.made;
      does_so = offered (has_room (length bytes) (state b).exchange) bytes (state b) (state c) did.made did.does_so;
      runs = did.runs;
      stays = did.stays;
    }

    pub sends_whole : (sent : Bool) → sent ≡ true → Makes state frame ran (offers bytes) b c (Some sent) → Makes state frame ran (Sends site content_type bytes) a c (Some Done)
    sends_whole sent is did =
        did_then state frame ran (makes (SetHeader (codes "content-type") content_type)) (λ _. Body bytes) a b c tt (Some Done) typed
        (whole_of (subst (λ sent. Makes state frame ran (offers bytes) b c (Some sent)) is did))

    pub sends_not : Makes state frame ran (offers bytes) b c None → Makes state frame ran (Sends site content_type bytes) a c None
    sends_not did =
        did_then state frame ran (makes (SetHeader (codes "content-type") content_type)) (λ _. Body bytes) a b c tt None typed
        (record {
          made = did.made;
          does_so = offer_refused (has_room (length bytes) (state b).exchange) bytes (state b) (state c) did.made did.does_so;
          runs = did.runs;
          stays = did.stays;
        })

    pub sends_too_much : (sent : Bool) (d : M) (result : Option Finished) → sent ≡ false → Makes state frame ran (offers bytes) b c (Some sent)
        → Makes state frame ran (faults site Files TooLarge) c d result → Makes state frame ran (Sends site content_type bytes) a d result
    sends_too_much sent d result is offer did =
        let none = untaken (has_room (length bytes) (state b).exchange) bytes (state b) (state c) offer.made
        (subst (λ sent. offers bytes (state b) offer.made (state c) (Some sent)) is offer.does_so) in
        did_then state frame ran (makes (SetHeader (codes "content-type") content_type)) (λ _. Body bytes) a b d tt result typed (record {
          made = offer.made ++ did.made;
          does_so = failed (has_room (length bytes) (state b).exchange) bytes (state b) (state c) (state d) offer.made did.made result none did.does_so;
          runs = λ from done so_far. subst (λ calls. ran from calls d) (append_assoc done offer.made did.made) (did.runs from (done ++ offer.made) (offer.runs from done so_far));
          stays = did.stays ∙ ap (staying result) offer.stays;
        })

  module _ (location : List ℕ) (a b : M) (emptied_so : Makes state frame ran (becomes (on_exchange emptied)) a b (Some tt)) where
    abbrev Located : Does Finished
    Located = makes (SetHeader (codes "location") location) >> gives Done

    pub sends_to_unfound : (c : M) → Makes state frame ran (makes (SetStatus FOUND)) b c None → Makes state frame ran (SendsTo site location) a c None
    sends_to_unfound c did =
        did_then state frame ran (becomes (on_exchange emptied)) (λ _. makes (SetStatus FOUND) >> Located) a b c tt None emptied_so
        (did_not state frame ran (makes (SetStatus FOUND)) (λ _. Located) b c did)

    pub sends_to_unlocated : (c d : M) → Makes state frame ran (makes (SetStatus FOUND)) b c (Some tt)
        → Makes state frame ran (makes (SetHeader (codes "location") location)) c d None → Makes state frame ran (SendsTo site location) a d None
    sends_to_unlocated c d found did =
        did_then state frame ran (becomes (on_exchange emptied)) (λ _. makes (SetStatus FOUND) >> Located) a b d tt None emptied_so
        (did_then state frame ran (makes (SetStatus FOUND)) (λ _. Located) b c d tt None found
        (did_not state frame ran (makes (SetHeader (codes "location") location)) (λ _. gives Done) c d did))

    pub sends_to_there : (c d : M) → Makes state frame ran (makes (SetStatus FOUND)) b c (Some tt)
        → Makes state frame ran (makes (SetHeader (codes "location") location)) c d (Some tt) → Makes state frame ran (SendsTo site location) a d (Some Done)
    sends_to_there c d found did =
        did_then state frame ran (becomes (on_exchange emptied)) (λ _. makes (SetStatus FOUND) >> Located) a b d tt (Some Done) emptied_so
        (did_then state frame ran (makes (SetStatus FOUND)) (λ _. Located) b c d tt (Some Done) found
        (did_then state frame ran (makes (SetHeader (codes "location") location)) (λ _. gives Done) c d d tt (Some Done) did (did_give state frame ran Done d)))
