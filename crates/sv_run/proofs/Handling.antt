-- Answering a message.
use Rattle.std.proofs.Common.{◌≡◌, ℕ, zero, suc, ◌-◌, ◌<◌, ◌||◌, List, [], ◌∷◌, ◌++◌, length, length-append, Bool, true, false, not, Option, None, Some, Result, Ok, Err, IfOk, OnOk, slice_get, slice_index_or, slice_set, refl, sym, ap, ◌∙◌, subst, arith}
use Rattle.sv_run.specs.Accesses.{context_access, logged, logged_request, own_access}
use Rattle.sv_run.specs.Output.{Growth, then_brings}
use Rattle.sv_run.specs.Replies.{access_by, asked_if, reply_to}
use Rattle.sv_run.specs.declared.output.Output.{Output}
use Rattle.sv_run.specs.declared.reply.Reply.{Reply}
use Rattle.sv_run.specs.declared.access.Access.{Access}
use Rattle.sv_journal.specs.Journal.{JournalState}
use Rattle.sv_journal.specs.declared.entry.Entry.{Entry}
use Rattle.sv_journal.specs.declared.entry.Entry.TheVariants.{Refused}
use Rattle.sv_journal.specs.declared.refusal_cause.RefusalCause.TheVariants as causes
use Rattle.sv_run.proofs.Effects.{first-at_none}
use Rattle.sv_message.specs.Content.{ends_connection}
use Rattle.sv_run.specs.Contexts.{Conduct, Handling, Theory, request_of}
use Rattle.sv_run.specs.Effect.{Effect, answered, handled, noting}
use Rattle.sv_run.specs.Items.{IsAnswerTo, IsTextAt, Responds, TakesMessage, closes_behind}
use Rattle.sv_wire.specs.WireFault.{fault_status}
use Rattle.sv_wire.specs.declared.wire_fault.WireFault.{WireFault}
use Rattle.sv_run.specs.Messages.{Destination, Itself, Within, destination, destination_at, destination_in, empty_response, place_for, plain_response}
use Rattle.sv_run.specs.State.{world_of}
use Rattle.sv_uri.specs.Canonical.{canonical}
use Rattle.sv_uri.specs.declared.fault.PathFault.{PathFault}
use Rattle.sv_uri.specs.declared.path.Canon.{Canon}
use Rattle.sv_message.specs.declared.message.Message.{Message}
use Rattle.sv_message.specs.declared.message.Target.{Target}
use Rattle.sv_message.specs.declared.message.Target.TheVariants.{Star, Path}
use Rattle.sv_message.specs.declared.response.Response.{Response}

pub there_at : {A : Type 0} (items : List A) (place : ℕ) (item : A) → place < length items → item ≡ slice_index_or items place item
    → slice_get items place ≡ Some item
there_at [] place item within is = absurd (omega (arith, within))
there_at (first ∷ items) zero item within is = ap Some (sym is)
there_at (first ∷ items) (suc place) item within is = there_at items place item (omega (arith, within)) is

-- what is appended is as long as the difference of the lengths
pub counted_behind : {A : Type 0} (front text whole : List A) (before after : ℕ) → before ≡ length front → after ≡ length whole → whole ≡ front ++ text
    → (after - before) ≡ length text
counted_behind front text whole before after is now joined = omega (arith, is, now, ap length joined, length-append front text)

pub same_there : {A : Type 0} (items : List A) (place : ℕ) (one other : A) → place < length items → one ≡ slice_index_or items place one → other ≡ slice_index_or items place other
    → one ≡ other
same_there [] place one other within is other_is = absurd (omega (arith, within))
same_there (first ∷ items) zero one other within is other_is = is ∙ sym other_is
same_there (first ∷ items) (suc place) one other within is other_is = same_there items place one other (omega (arith, within)) is other_is

-- the entries behind those of a journal
pub entries_behind : (start after : JournalState) (entries : List Entry) (noted : ℕ) → after ≡ noting entries start → noted ≡ length start.entries
    → (length after.entries - noted) ≡ length entries
entries_behind start after entries noted notes is =
    counted_behind start.entries entries after.entries noted (length after.entries) is refl (ap (λ (j : JournalState). j.entries) notes)

-- a message is answered, and its effect is added to the reaction
abbrev pub AnswersMessage : {C W : Type 0} → Theory C W → ℕ → Destination → Message → ℕ × ℕ → List C → List C → Growth → Growth → Type 0
AnswersMessage {C} theory moment where_to message words before after start end =
    (effect : Effect C) × Responds theory moment where_to message words before effect after × (end ≡ then_brings start effect)

-- the access of a message by its prepared reply
pub access_by_reply : (place : ℕ) (caller : Option ℕ) (message : Message) (output : Output) (reply : Reply) (status count entries : ℕ) → reply ≡ reply_to place caller message output
    → access_by reply status count entries ≡ logged output.logs (context_access place caller (logged_request message) status count entries ∷ [])
access_by_reply place caller message output reply status count entries is =
    ap (λ r. access_by r status count entries) is ∙ by_logs output.logs
  where
    by_logs : (logs : Bool) → access_by (record (reply_to place caller message output) { asked = asked_if logs caller message }) status count entries
        ≡ logged logs (context_access place caller (logged_request message) status count entries ∷ [])
    by_logs true = refl
    by_logs false = refl

-- the text that a prepared reply sends is that of the response to the message, and its access is that of the message, if a log wants it
pub sent_by_reply : {C T E : Type 0} (conduct : Conduct C) (moment : ℕ) (message : Message) (held : List C) (place : ℕ) (seen old : C) (output : Output) (reply : Reply)
    (response : Response) (middle end : Growth) (result : Result T E) (number : ℕ) → place < length held
    → seen ≡ slice_index_or held place seen → old ≡ slice_index_or held place old → reply ≡ reply_to place (conduct.caller_of seen message) message output
    → IfOk result (λ _. (text : List ℕ) × IsTextAt moment response reply.head_only reply.keep text
    × (end ≡ record middle {
      sends = middle.sends ++ text;
      closes = middle.closes || (not reply.keep || ends_connection response.body);
      accesses = middle.accesses ++ access_by reply response.status (length text) number;
    }))
    → IfOk result (λ _. (text : List ℕ) × IsAnswerTo message moment response text
    × (end ≡ record middle {
      sends = middle.sends ++ text;
      closes = middle.closes || closes_behind message response;
      accesses = middle.accesses ++ logged output.logs (context_access place (conduct.caller_of old message) (logged_request message) response.status (length text) number ∷ []);
    }))
sent_by_reply conduct moment message held place seen old output reply response middle end (Err fault) number within is other_is made sends = tt
sent_by_reply conduct moment message held place seen old output reply response middle end (Ok done) number within is other_is made sends = (
  sends.0,
  subst (λ (r : Reply). IsTextAt moment response r.head_only r.keep sends.0) made sends.1,
  sends.2 ∙ (λ i. record middle {
    sends = middle.sends ++ sends.0;
    closes = middle.closes || (not (made i).keep || ends_connection response.body);
    accesses = middle.accesses ++ access_by_reply place (conduct.caller_of seen message) message output reply response.status (length sends.0) number made i;
  })
      ∙ (λ i. record middle {
        sends = middle.sends ++ sends.0;
        closes = middle.closes || closes_behind message response;
        accesses = middle.accesses ++ logged output.logs
            (context_access place (conduct.caller_of (same_there held place seen old within is other_is i) message) (logged_request message) response.status (length sends.0) number ∷ []);
      }),
)

-- an entry is noted, a text is sent, and then the access is logged
pub noted_sent_and_logged : (C : Type 0) (start middle reached end : Growth) (asked : Option Message) (response : Response) (entry : Entry) (closes : Bool) (text : List ℕ) (count : ℕ)
    → middle ≡ record start { journal = noting (entry ∷ []) start.journal }
    → count ≡ length text
    → reached ≡ record middle { sends = middle.sends ++ text; closes = middle.closes || closes }
    → end ≡ record reached { accesses = reached.accesses ++ logged reached.logs (own_access asked response.status count ∷ []) }
    → end ≡ then_brings start (answered {Context = C} asked response entry text closes)
noted_sent_and_logged C start middle reached end asked response entry closes text count notes counts sends logs =
    logs
    ∙ ap (λ (r : Growth). record r { accesses = r.accesses ++ logged r.logs (own_access asked response.status count ∷ []) }) sends
    ∙ ap (λ (r : Growth). record r {
      sends = r.sends ++ text;
      closes = r.closes || closes;
      accesses = r.accesses ++ logged r.logs (own_access asked response.status count ∷ []);
    }) notes
    ∙ (λ i. record (then_brings start (answered {Context = C} asked response entry text closes)) {
      edited = sym (first-at_none start.edited) i;
      accesses = start.accesses ++ logged start.logs (own_access asked response.status (counts i) ∷ []);
    })

-- bytes that were no message are refused, with the response to their fault
pub refused_and_logged : {T E : Type 0} (C : Type 0) (moment : ℕ) (result : Result T E) (fault : WireFault) (response : Response) (start middle reached end : Growth) (text : List ℕ) (count : ℕ)
    → response ≡ plain_response (fault_status fault)
    → middle ≡ record start { journal = noting (Refused (causes.Wire fault) ∷ []) start.journal }
    → IsTextAt moment response false false text → count ≡ length text
    → reached ≡ record middle { sends = middle.sends ++ text; closes = middle.closes || true }
    → OnOk result (end ≡ record reached { accesses = reached.accesses ++ logged reached.logs (own_access None response.status count ∷ []) })
    → IfOk result (λ _. (text : List ℕ) × IsTextAt moment (plain_response (fault_status fault)) false false text
    × (end ≡ then_brings start (answered {Context = C} None (plain_response (fault_status fault)) (Refused (causes.Wire fault)) text true)))
refused_and_logged C moment (Err wanted) fault response start middle reached end text count is notes sent counts sends logs = tt
refused_and_logged C moment (Ok done) fault response start middle reached end text count is notes sent counts sends logs = (
  text,
  subst (λ r. IsTextAt moment r false false text) is sent,
  noted_sent_and_logged C start middle reached end None response (Refused (causes.Wire fault)) true text count notes counts sends logs
      ∙ ap (λ r. then_brings start (answered {Context = C} None r (Refused (causes.Wire fault)) text true)) is,
)

module _ (C : Type 0) (moment : ℕ) (message : Message) (start : Growth) where
  pub answers_and_logs : {T E : Type 0} (result : Result T E) (entry : Entry) (response : Response) (middle reached end : Growth) (text : List ℕ) (count : ℕ)
      → middle ≡ record start { journal = noting (entry ∷ []) start.journal }
      → IsAnswerTo message moment response text → count ≡ length text
      → reached ≡ record middle { sends = middle.sends ++ text; closes = middle.closes || closes_behind message response }
      → OnOk result (end ≡ record reached { accesses = reached.accesses ++ logged reached.logs (own_access (Some message) response.status count ∷ []) })
      → IfOk result (λ _. (text : List ℕ) × IsAnswerTo message moment response text
      × (end ≡ then_brings start (answered {Context = C} (Some message) response entry text (closes_behind message response))))
  answers_and_logs (Err fault) entry response middle reached end text count notes answers counts sends logs = tt
  answers_and_logs (Ok done) entry response middle reached end text count notes answers counts sends logs =
      (text, answers, noted_sent_and_logged C start middle reached end (Some message) response entry (closes_behind message response) text count notes counts sends logs)

  -- the given response is the intended one
  pub answered_as : {T E : Type 0} (result : Result T E) (entry : Entry) (given meant : Response) (end : Growth) → given ≡ meant
      → IfOk result (λ _. (text : List ℕ) × IsAnswerTo message moment given text
      × (end ≡ then_brings start (answered {Context = C} (Some message) given entry text (closes_behind message given))))
      → IfOk result (λ _. (text : List ℕ) × IsAnswerTo message moment meant text
      × (end ≡ then_brings start (answered {Context = C} (Some message) meant entry text (closes_behind message meant))))
  answered_as result entry given meant end same sends =
      subst (λ response. IfOk result (λ _. (text : List ℕ) × IsAnswerTo message moment response text
      × (end ≡ then_brings start (answered {Context = C} (Some message) response entry text (closes_behind message response))))) same sends

module _ {C W : Type 0} (theory : Theory C W) (moment : ℕ) (message : Message) (words : ℕ × ℕ) (before : List C) (start : Growth) where
  module _ (place : ℕ) (canon : Canon) (old new : C) (response : Response) (entries : List Entry) (within : place < length before) (is : old ≡ slice_index_or before place old)
      (handles : theory.conduct.Handles record {
        context = old;
        request = request_of message canon moment words;
        entries = entries;
        response = response;
        after = new;
      }) (middle : Growth) (notes : middle ≡ record start { journal = noting entries start.journal }) where
    abbrev its_access : ℕ → ℕ → Access
    its_access count number = context_access place (theory.conduct.caller_of old message) (logged_request message) response.status count number

    pub handles_at : (end : Growth) (text : List ℕ) (number : ℕ) → IsAnswerTo message moment response text → number ≡ length entries
        → end ≡ record middle {
          sends = middle.sends ++ text;
          closes = middle.closes || closes_behind message response;
          accesses = middle.accesses ++ logged start.logs (its_access (length text) number ∷ []);
        }
        → AnswersMessage theory moment (Within place canon) message words before (slice_set before place new) start end
    handles_at end text number answers counts sent =
        let handling : Handling C = record {
          context = old;
          request = request_of message canon moment words;
          entries = entries;
          response = response;
          after = new;
        } in (
          handled place (theory.conduct.caller_of old message) handling text (closes_behind message response),
          (
            handling,
            text,
            refl,
            record { there = there_at before place old within is; handles = handles; is_after = refl },
            answers,
            refl,
          ),
          sent ∙ ap (λ (r : Growth). record r {
            sends = r.sends ++ text;
            closes = r.closes || closes_behind message response;
            accesses = r.accesses ++ logged start.logs (its_access (length text) number ∷ []);
          }) notes
              ∙ (λ i. record (then_brings start (handled place (theory.conduct.caller_of old message) handling text (closes_behind message response))) {
                edited = sym (first-at_none start.edited) i;
                accesses = start.accesses ++ logged start.logs (its_access (length text) (counts i) ∷ []);
              }),
        )

    pub sent : {T E : Type 0} (result : Result T E) (end : Growth) (number : ℕ) → number ≡ length entries
        → IfOk result (λ _. (text : List ℕ) × IsAnswerTo message moment response text
        × (end ≡ record middle {
          sends = middle.sends ++ text;
          closes = middle.closes || closes_behind message response;
          accesses = middle.accesses ++ logged start.logs (its_access (length text) number ∷ []);
        }))
        → IfOk result (λ _. AnswersMessage theory moment (Within place canon) message words before (slice_set before place new) start end)
    sent (Err fault) end number counts sends = tt
    sent (Ok done) end number counts sends = handles_at end sends.0 number sends.1 counts sends.2

  pub answers_itself : {T E : Type 0} (result : Result T E) (entry : Entry) (response : Response) (end : Growth)
      → IfOk result (λ _. (text : List ℕ) × IsAnswerTo message moment response text
      × (end ≡ then_brings start (answered {Context = C} (Some message) response entry text (closes_behind message response))))
      → IfOk result (λ _. AnswersMessage theory moment (Itself entry response) message words before before start end)
  answers_itself (Err fault) entry response end sends = tt
  answers_itself (Ok done) entry response end sends = (
    answered (Some message) response entry sends.0 (closes_behind message response),
    (sends.0, sends.1, refl, refl),
    sends.2,
  )

  pub same_fault : {T E : Type 0} (result : Result T E) (given : Response) (end : Growth) (fault same : PathFault) → same ≡ fault
      → IfOk result (λ _. (text : List ℕ) × IsAnswerTo message moment given text
      × (end ≡ then_brings start (answered {Context = C} (Some message) given (Refused (causes.Path fault)) text (closes_behind message given))))
      → IfOk result (λ _. (text : List ℕ) × IsAnswerTo message moment given text
      × (end ≡ then_brings start (answered {Context = C} (Some message) given (Refused (causes.Path same)) text (closes_behind message given))))
  same_fault result given end fault same is sends =
      subst (λ f. IfOk result (λ _. (text : List ℕ) × IsAnswerTo message moment given text
      × (end ≡ then_brings start (answered {Context = C} (Some message) given (Refused (causes.Path f)) text (closes_behind message given))))) (sym is) sends

  pub sent_to : {T E : Type 0} (result : Result T E) (meant given : Destination) (after : List C) (end : Growth) → meant ≡ given
      → IfOk result (λ _. AnswersMessage theory moment given message words before after start end)
      → IfOk result (λ _. AnswersMessage theory moment meant message words before after start end)
  sent_to result meant given after end same answers =
      subst (λ d. IfOk result (λ _. AnswersMessage theory moment d message words before after start end)) (sym same) answers

  pub draws : {T E : Type 0} (result : Result T E) (source left : W) (after : List C) (end : Growth) → theory.Draws source words left
      → IfOk result (λ _. AnswersMessage theory moment (destination theory before message.target) message words before after start end)
      → IfOk result (λ _. (effect : Effect C)
      × TakesMessage theory moment message (world_of before source) effect (world_of after left) × (end ≡ then_brings start effect))
  draws (Err fault) source left after end drawn answers = tt
  draws (Ok done) source left after end drawn answers = (answers.0, (words, drawn, answers.1), answers.2)

module _ {C W : Type 0} (theory : Theory C W) (contexts : List C) where
  pub at_star : (target : Target) → target ≡ Star → destination theory contexts target ≡ Itself (Refused causes.Star) empty_response
  at_star target is = ap (destination theory contexts) is

  pub at_fault : (target : Target) (text read : List ℕ) (fault : PathFault) → target ≡ Path text → read ≡ text → canonical read ≡ Err fault
      → destination theory contexts target ≡ Itself (Refused (causes.Path fault)) (plain_response 400)
  at_fault target text read fault is same reads =
      ap (destination theory contexts) is ∙ ap (destination_at (place_for theory contexts)) (ap canonical (sym same) ∙ reads)

  pub at_path : (target : Target) (text read : List ℕ) (canon : Canon) → target ≡ Path text → read ≡ text → canonical read ≡ Ok canon
      → destination theory contexts target ≡ destination_in canon (place_for theory contexts canon.path)
  at_path target text read canon is same reads =
      ap (destination theory contexts) is ∙ ap (destination_at (place_for theory contexts)) (ap canonical (sym same) ∙ reads)
