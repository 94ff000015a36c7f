-- Each message that a context of ours handles is lawful, and each expiry of its sessions is.
use Rattle.std.proofs.Common.{◌≡◌, ◌≢◌, ◌⊎◌, ℕ, true, inl, inr, List, [], ◌∷◌, ◌++◌, map, refl, sym, ap, ◌∙◌, subst, append-nil, length}
use Rattle.sv_admission.specs.Admission.{outcome_in}
use Rattle.sv_component.proofs.Running.{runs_grown}
use Rattle.sv_component.specs.Laws.{RunsAreJournalled}
use Rattle.sv_component.specs.Runs.{IsRun, OfFilter, OfListener, OfServlet, Record, record_entry}
use Rattle.sv_component.specs.Steps.{ComponentSteps}
use Rattle.sv_context.proofs.Journals.{runs_unnoted}
use Rattle.sv_context.specs.Conduct.{asked_of, conduct, unnoted}
use Rattle.sv_context.specs.Expiry.{ends_told}
use Rattle.sv_context.specs.Handled.{admitted}
use Rattle.sv_context.specs.State.{ContextState, world_of}
use Rattle.sv_headline.specs.Message.{IsBecause, IsDoneBy, IsLawfulMessage, findings_in}
use Rattle.sv_headline.specs.Transitions.{Expiry, IsExpiry, entries_of}
use Rattle.sv_journal.specs.Journal.{JournalState, new_journal, with_entry}
use Rattle.sv_journal.specs.declared.entry.Entry.{Entry}
use Rattle.sv_login.specs.OutcomeLaws.{JustOneCaseHolds}
use Rattle.sv_login.specs.declared.outcome.Outcome.{Outcome}
use Rattle.sv_login.specs.declared.outcome.Outcome.TheVariants as outcomes
use Rattle.sv_run.specs.Contexts.{Handling}
use Rattle.sv_run.specs.Effect.{whole}

entered_or_not : (outcome : Outcome) → (outcome ≡ outcomes.Entered) ⊎ (outcome ≢ outcomes.Entered)
entered_or_not outcomes.Protected = inr (λ same. absurd (cc))
entered_or_not (outcomes.LoggedIn number target) = inr (λ same. absurd (cc))
entered_or_not outcomes.LoginFailed = inr (λ same. absurd (cc))
entered_or_not outcomes.NoSession = inr (λ same. absurd (cc))
entered_or_not outcomes.Entered = inl refl
entered_or_not (outcomes.SentToLogin why) = inr (λ same. absurd (cc))
entered_or_not (outcomes.NoLogin why) = inr (λ same. absurd (cc))
entered_or_not (outcomes.Denied why) = inr (λ same. absurd (cc))

module _ {S F L : Type 0} where
  same_entry : (context : ContextState S F L) (noted : JournalState) (made : Record)
      → record_entry (world_of context noted) made ≡ record_entry (world_of context unnoted) made
  same_entry context noted (OfServlet place call) = refl
  same_entry context noted (OfFilter place call) = refl
  same_entry context noted (OfListener place event) = refl

  all_same : (context : ContextState S F L) (noted : JournalState) (made : List Record)
      → map (record_entry (world_of context noted)) made ≡ map (record_entry (world_of context unnoted)) made
  all_same context noted [] = refl
  all_same context noted (one ∷ others) = λ i. same_entry context noted one i ∷ all_same context noted others i

module _ {S F L : Type 0} (moving : ComponentSteps S F L) (journalled : RunsAreJournalled moving) where
  -- a journal that is still whole has gained the entries of the calls
  pub gained : (context after : ContextState S F L) (noted noted' : JournalState) (made : List Record)
      → IsRun moving (world_of context noted) made (world_of after noted')
      → noted'.whole ≡ true → noted'.entries ≡ noted.entries ++ map (record_entry (world_of context unnoted)) made
  gained context after noted noted' made runs is_whole =
      let gains = journalled (world_of context noted) (world_of after noted') made runs in
      let all : map (record_entry (world_of context noted)) made ≡ gains.front =
      gains.are ∙ ap (λ rest. gains.front ++ rest) (gains.all is_whole).1 ∙ append-nil gains.front in
      gains.gained ∙ ap (λ front. noted.entries ++ front) (sym all ∙ all_same context noted made)

  -- ---- messages

  abbrev Handles : Handling (ContextState S F L) → Type 0
  Handles handling = (conduct moving).Handles handling

  abbrev outcome_for : Handling (ContextState S F L) → Outcome
  outcome_for handling =
      outcome_in handling.context.content handling.context.policy handling.context.users (asked_of handling.context handling.request) handling.context.store

  pub done_by : (handling : Handling (ContextState S F L)) (handles : Handles handling)
      → IsDoneBy moving handling handles.is_answered.made (outcome_for handling)
  done_by handling handles =
      let context = handling.context in
      let made = handles.is_answered.made in
      let noted = with_entry (admitted context (asked_of context handling.request)).entry new_journal in
      record {
        noted = gained context handling.after noted (whole handling.entries) made handles.is_answered.runs refl;
        exchange = handles.exchange;
        answers = handles.is_answered.answers;
        moves = runs_unnoted moving (world_of context noted) made (world_of handling.after (whole handling.entries)) handles.is_answered.runs;
        response = handles.response_is;
        sessions = handles.store;
        stays = handles.is_answered.stays;
      }

  pub message_is_lawful : JustOneCaseHolds → (handling : Handling (ContextState S F L)) (handles : Handles handling)
      → IsLawfulMessage moving handling handles.is_answered.made
  message_is_lawful one_case handling handles =
      let context = handling.context in
      let outcome = outcome_for handling in
      let found = findings_in context handling.request in
      let because : IsBecause context handling.request outcome = (one_case found outcome).1 refl in
      let done = done_by handling handles in
      elim (entered_or_not outcome) [
        | inl same ↦
            let by : IsBecause context handling.request outcomes.Entered = subst (IsBecause context handling.request) same because in
            inl (
              record { shown = by.0.0; no_login = by.0.1; why = by.1.0; allowed = by.1.1 },
              subst (IsDoneBy moving handling handles.is_answered.made) same done,
            )
        | inr other ↦
            inr (
              λ may. other ((one_case found outcomes.Entered).0 ((may.shown, may.no_login), (may.why, may.allowed))),
              record { cause = outcome; because = because; other = other; done = done },
            )
      ]

  -- ---- expiries

  module _ (context after : ContextState S F L) (moment : ℕ) (told : List Entry) (expires : (conduct moving).Expires context moment told after) where
    abbrev pub expiry_of : Expiry S F L
    expiry_of = record { context = context; ended = expires.ended; after = after }

    runs : IsRun moving (world_of context new_journal) (ends_told expires.ended (length context.listeners)) (world_of after (whole told))
    runs = runs_grown moving (world_of context new_journal) (world_of after (whole told)) (ends_told expires.ended (length context.listeners)) expires.told

    pub is_expiry : IsExpiry moving moment expiry_of
    is_expiry = record {
      ends = expires.ends;
      moves = runs_unnoted moving (world_of context new_journal) (ends_told expires.ended (length context.listeners)) (world_of after (whole told)) runs;
      stays = expires.stays;
      standings = expires.standings;
    }

    pub told_are : told ≡ entries_of expiry_of
    told_are = gained context after new_journal (whole told) (ends_told expires.ended (length context.listeners)) runs refl
