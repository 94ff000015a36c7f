-- The deeds for messages, and the journal's reports of them.
use Rattle.std.proofs.Common.{◌≡◌, ℕ, true, List, [], ◌∷◌, ◌++◌, map, filter, Option, Some, None, Result, Ok, Err, refl, sym, ap, ◌∙◌, subst}
use Rattle.std.specs.List.{AllByRecursion}
use Rattle.std.proofs.lemmas.List.{map-append}
use Rattle.std.proofs.lemmas.List.Elements.{filter-append}
use Rattle.sv_journal.specs.declared.entry.Entry.{Entry}
use Rattle.sv_journal.specs.declared.entry.Entry.TheVariants as entries
use Rattle.sv_login.specs.OutcomeLaws.{EntersExactlyByAnOpenVerdict}
use Rattle.sv_login.specs.declared.outcome.Outcome.{Outcome}
use Rattle.sv_login.specs.declared.outcome.Outcome.TheVariants.{Protected, LoggedIn, LoginFailed, NoSession, Entered, SentToLogin, NoLogin, Denied}
use Rattle.sv_mapping.specs.Within.{path_within}
use Rattle.sv_run.specs.Contexts.{Handling, Theory}
use Rattle.sv_run.specs.Effect.{Deed, Effect, Handled}
use Rattle.sv_run.specs.Events.{Accepts, Edited, Ended, ExpiresAll, Happening, Happens, Lost, Opened, Piece, Tick}
use Rattle.sv_run.specs.Items.{Responds, Takes, TakesItem}
use Rattle.sv_login.specs.OutcomeEntry.{outcome_entry}
use Rattle.sv_run.specs.Lawful.{TellsOutcomes, entry_of, is_outcome, outcome_of}
use Rattle.sv_run.specs.Laws.{EntersWhereAllowed, RequestsEnterExactlyWhereAllowed, deed_entry}
use Rattle.sv_run.specs.Messages.{Destination, Itself, Within, destination, destination_at, destination_in, destination_of}
use Rattle.sv_run.specs.Runs.{Answer, Run, deeds_of, journal_of}
use Rattle.sv_run.specs.State.{State, World}
use Rattle.sv_run.proofs.Taking.{either}
use Rattle.sv_uri.specs.Canonical.{canonical}
use Rattle.sv_uri.specs.declared.fault.PathFault.{PathFault}
use Rattle.sv_uri.specs.declared.path.Canon.{Canon}
use Rattle.sv_wire.specs.declared.item.Item.{Item}
use Rattle.sv_wire.specs.declared.item.Item.TheVariants.{Continue, Message, Refuse}
use Rattle.sv_message.specs.declared.message.Message.{Message as MessageRecord}
use Rattle.sv_message.specs.declared.message.Target.{Target}
use Rattle.sv_message.specs.declared.message.Target.TheVariants.{Star, Path}

pub all_append : {X : Type 0} (P : X → Type 0) (xs ys : List X) → AllByRecursion P xs → AllByRecursion P ys → AllByRecursion P (xs ++ ys)
all_append P [] ys first second = second
all_append P (x ∷ xs) ys first second = (first.0, all_append P xs ys first.1 second)

-- a message that the container answers itself has an outcome, but does not enter
abbrev IsOwn : Destination → Type 0
IsOwn (Itself entry response) = (is_outcome entry ≡ true) × ((context path : List ℕ) → ¬ (entry ≡ entries.Entered context path))
IsOwn (Within place canon) = Unit {0}

own_in : (canon : Canon) (place : Option ℕ) → IsOwn (destination_in canon place)
own_in canon None = (refl, λ context path same. absurd (cc))
own_in canon (Some place) = tt

own_at : (place_for : List ℕ → Option ℕ) (read : Result Canon PathFault) → IsOwn (destination_at place_for read)
own_at place_for (Err fault) = (refl, λ context path same. absurd (cc))
own_at place_for (Ok canon) = own_in canon (place_for canon.path)

own_of : (place_for : List ℕ → Option ℕ) (target : Target) → IsOwn (destination_of place_for target)
own_of place_for Star = (refl, λ context path same. absurd (cc))
own_of place_for (Path target) = own_at place_for (canonical target)

-- each outcome has an entry, and only a message that entered has an entry that says so
is_told : (context path : List ℕ) (came : Outcome) → is_outcome (outcome_entry context path came) ≡ true
is_told context path Protected = refl
is_told context path (LoggedIn number target) = refl
is_told context path LoginFailed = refl
is_told context path NoSession = refl
is_told context path Entered = refl
is_told context path (SentToLogin why) = refl
is_told context path (NoLogin why) = refl
is_told context path (Denied why) = refl

says_so : (context path : List ℕ) (came : Outcome) → outcome_entry context path came ≡ entries.Entered context path → came ≡ Entered
says_so context path Protected same = absurd (cc)
says_so context path (LoggedIn number target) same = absurd (cc)
says_so context path LoginFailed same = absurd (cc)
says_so context path NoSession same = absurd (cc)
says_so context path Entered same = refl
says_so context path (SentToLogin why) same = absurd (cc)
says_so context path (NoLogin why) same = absurd (cc)
says_so context path (Denied why) same = absurd (cc)

one_told : (entry : Entry) (behind : List Entry) → is_outcome entry ≡ true → filter is_outcome behind ≡ [] → filter is_outcome (entry ∷ behind) ≡ entry ∷ []
one_told entry behind is none = rw (is, none) refl

module _ {Context Words : Type 0} (theory : Theory Context Words) where
  -- the entries report the deeds for the messages, and each message enters exactly if it is allowed
  pub record Tells (entries : List Entry) (deeds : List (Deed Context)) : Type 0 where
    pub told : filter is_outcome entries ≡ map (deed_entry theory) deeds
    pub enters : AllByRecursion (EntersWhereAllowed theory) deeds

  tells_both : (first second : List Entry) (deeds more : List (Deed Context)) → Tells first deeds → Tells second more → Tells (first ++ second) (deeds ++ more)
  tells_both first second deeds more one two =
      record {
        told = filter-append is_outcome first second ∙ (λ i. one.told i ++ two.told i) ∙ sym (map-append (deed_entry theory) deeds more);
        enters = all_append (EntersWhereAllowed theory) deeds more one.enters two.enters;
      }

  tells_none : (told : List Entry) → filter is_outcome told ≡ [] → Tells told []
  tells_none told none = record { told = none; enters = tt }

  -- the entries and deeds of an effect
  abbrev TellsOf : Effect Context → Type 0
  TellsOf effect = Tells effect.journal effect.deeds

  module _ (by_verdict : EntersExactlyByAnOpenVerdict) (outspoken : TellsOutcomes theory) where
    allowed : (handling : Handling Context) → EntersWhereAllowed theory (Handled 0 handling)
    allowed handling = (
      λ same.
          let open_by = (by_verdict (theory.conduct.findings handling.context handling.request)).0
          (says_so (theory.path_of handling.context) (path_within (theory.path_of handling.context) handling.request.canon.path) (outcome_of theory handling) same) in
          record { ordinary = open_by.0; why = open_by.1.0; verdict = open_by.1.1 },
      λ allows.
          ap (outcome_entry (theory.path_of handling.context) (path_within (theory.path_of handling.context) handling.request.canon.path))
          ((by_verdict (theory.conduct.findings handling.context handling.request)).1 (allows.ordinary, (allows.why, allows.verdict))),
    )

    handled_tells : (place : ℕ) (handling : Handling Context) → theory.conduct.Handles handling → Tells handling.entries (Handled place handling ∷ [])
    handled_tells place handling handles =
        let starts = outspoken.tells handling handles in
        record {
          told = ap (filter is_outcome) starts.are
              ∙ one_told (entry_of theory handling) starts.behind
              (is_told (theory.path_of handling.context) (path_within (theory.path_of handling.context) handling.request.canon.path) (outcome_of theory handling))
              starts.no_other;
          enters = (allowed handling, tt);
        }

    responds_tells : (moment : ℕ) (to : Destination) (message : MessageRecord) (words : ℕ × ℕ) (before after : List Context) (effect : Effect Context)
        → IsOwn to → Responds theory moment to message words before effect after → TellsOf effect
    responds_tells moment (Itself entry response) message words before after effect own responds =
        subst TellsOf (sym responds.2)
        record { told = one_told entry [] own.0 refl; enters = (own.1, tt) }
    responds_tells moment (Within place canon) message words before after effect own responds =
        subst TellsOf (sym responds.5) (handled_tells place responds.0 responds.3.handles)

    item_tells : (moment : ℕ) (item : Item) (before after : World Context Words) (effect : Effect Context)
        → TakesItem theory moment item before effect after → TellsOf effect
    item_tells moment Continue before after effect takes = subst TellsOf (sym takes.0) record { told = refl; enters = tt }
    item_tells moment (Refuse fault) before after effect takes =
        subst TellsOf (sym takes.2) record { told = refl; enters = (λ context path same. absurd (cc), tt) }
    item_tells moment (Message message) before after effect takes =
        responds_tells moment (destination theory before.contexts message.target) message takes.0 before.contexts after.contexts effect
        (own_of _ message.target) takes.2

    takes_tells : (moment : ℕ) (items : List Item) (before after : World Context Words) (effect : Effect Context)
        → Takes theory moment items before effect after → TellsOf effect
    takes_tells moment [] before after effect takes = subst TellsOf (sym takes.0) record { told = refl; enters = tt }
    takes_tells moment (item ∷ items) before after effect takes =
        subst TellsOf (sym takes.5)
        (tells_both takes.1.journal takes.2.journal takes.1.deeds takes.2.deeds
        (item_tells moment item before takes.0 takes.1 takes.3)
        (either takes.1.closes takes.4
        (λ none. subst TellsOf (sym none.0) record { told = refl; enters = tt })
        (λ rest. takes_tells moment items takes.0 after takes.2 rest)))

    happens_tells : (before after : State Context Words) (happening : Happening) (effect : Effect Context)
        → Happens theory before happening effect after → TellsOf effect
    happens_tells before after (Opened number) effect happens = subst TellsOf (sym happens.0) record { told = refl; enters = tt }
    happens_tells before after (Piece number bytes moment) effect happens =
        takes_tells before.moment happens.items before.world happens.world effect happens.takes
    happens_tells before after (Ended number) effect happens = subst TellsOf (sym happens.0) record { told = refl; enters = tt }
    happens_tells before after (Lost number) effect happens = subst TellsOf (sym happens.0) record { told = refl; enters = tt }
    happens_tells before after (Tick moment) effect happens = subst TellsOf (sym happens.0) record { told = refl; enters = tt }
    happens_tells before after (Edited path edit) effect happens = subst TellsOf (sym happens.brings) record { told = refl; enters = tt }

    expires_silently : (contexts after : List Context) (moment : ℕ) (told : List Entry) → ExpiresAll theory.conduct contexts moment told after
        → filter is_outcome told ≡ []
    expires_silently [] after moment told expires = ap (filter is_outcome) expires.0
    expires_silently (context ∷ contexts) after moment told expires =
        ap (filter is_outcome) expires.6 ∙ filter-append is_outcome expires.0 expires.1
        ∙ (λ i. outspoken.ends_silently context expires.2 moment expires.0 expires.4 i ++ expires_silently contexts expires.3 moment expires.1 expires.5 i)

    accepts_tells : (before after : State Context Words) (happening : Happening) (effect : Effect Context)
        → Accepts theory before happening effect after → TellsOf effect
    accepts_tells before after happening effect accepts =
        subst TellsOf (sym accepts.is_joined)
        (tells_both accepts.told accepts.brings.journal [] accepts.brings.deeds
        (tells_none accepts.told (expires_silently before.world.contexts accepts.contexts _ accepts.told accepts.expires))
        (happens_tells _ after happening accepts.brings accepts.happens))

    pub run_tells : (before after : State Context Words) (happenings : List Happening) (answers : List (Answer Context))
        → Run theory before happenings answers after → Tells (journal_of answers) (deeds_of answers)
    run_tells before after [] [] run = record { told = refl; enters = tt }
    run_tells before after [] (answer ∷ answers) run = absurd run
    run_tells before after (happening ∷ happenings) [] run = absurd run
    run_tells before after (happening ∷ happenings) (Ok effect ∷ answers) run =
        tells_both effect.journal (journal_of answers) effect.deeds (deeds_of answers)
        (accepts_tells before run.0 happening effect run.1) (run_tells run.0 after happenings answers run.2)
    run_tells before after (happening ∷ happenings) (Err fault ∷ answers) run = run_tells run.0 after happenings answers run.2

  pub requests_enter : EntersExactlyByAnOpenVerdict → TellsOutcomes theory → RequestsEnterExactlyWhereAllowed theory
  requests_enter by_verdict outspoken before after happenings answers run =
      let tells = run_tells by_verdict outspoken before after happenings answers run in
      (tells.told, tells.enters)
