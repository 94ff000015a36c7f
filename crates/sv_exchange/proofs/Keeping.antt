-- Changing calls keep the request.
use Rattle.std.specs.Prelude.{ℕ, Bool, true, false, Option, None, Some, is_some, Result, Ok, Err, if◌then◌else◌}
use Rattle.std.specs.Option.{option_map_or}
use Rattle.std.proofs.Common.{List, [], ◌∷◌, refl, sym, ◌∙◌, subst}
use Rattle.sv_exchange.specs.declared.exchange_fault.ExchangeFault.{ExchangeFault}
use Rattle.sv_exchange.specs.Changing.{Change, SetStatus, SetHeader, AddHeader, Write, SetAttribute, Flush, SessionOpen, SessionSet, SessionRemove, SessionEnd, Logout, Reaches, after_all, answer, changed, left_by}
use Rattle.sv_exchange.specs.Keeping.{SameRequest}
use Rattle.sv_exchange.specs.Sessions.{ended, has_session, logged_out, on_session, opened, session_of, session_value, with_attribute, without_attribute, without_caller}
use Rattle.sv_exchange.specs.State.{State}
use Rattle.sv_exchange.proofs.Reaching.{reaches_to}

pub request_same : (x : State) → SameRequest x x
request_same x = record { method = refl; context_path = refl; cookie_settings = refl; request_fields = refl; body = refl; moment = refl; reads_chunks = refl; client = refl; dispatches = refl; calls = refl; kept = refl; broken = refl; words = refl }

pub request_then : (x y z : State) → SameRequest x y → SameRequest y z → SameRequest x z
request_then x y z one two = record {
  method = two.method ∙ one.method;
  context_path = two.context_path ∙ one.context_path;
  cookie_settings = two.cookie_settings ∙ one.cookie_settings;
  request_fields = two.request_fields ∙ one.request_fields;
  body = two.body ∙ one.body;
  moment = two.moment ∙ one.moment;
  reads_chunks = two.reads_chunks ∙ one.reads_chunks;
  client = two.client ∙ one.client;
  dispatches = two.dispatches ∙ one.dispatches;
  calls = two.calls ∙ one.calls;
  kept = two.kept ∙ one.kept;
  broken = two.broken ∙ one.broken;
  words = two.words ∙ one.words;
}

-- A change of the session, or one under a test, keeps the request if the change itself does.
on_session_request : (change : ℕ → State → State) (x : State) → ((number : ℕ) → SameRequest x (change number x)) → SameRequest x (on_session change x)
on_session_request change x same = found_request (session_of x)
  where
    found_request : (found : Option ℕ) → SameRequest x (option_map_or (λ number. change number x) found x)
    found_request None = request_same x
    found_request (Some number) = same number

chosen_request : (test : Bool) (x y : State) → SameRequest x y → SameRequest x (if test then y else x)
chosen_request true x y same = same
chosen_request false x y same = request_same x

kept_request : (test : Bool) (x y : State) → SameRequest x y → SameRequest x (if test then x else y)
kept_request true x y same = request_same x
kept_request false x y same = same

logged_out_request : (x : State) → SameRequest x (logged_out x)
logged_out_request x =
    let y = on_session without_caller x in
    request_then x y (logged_out x) (on_session_request without_caller x (λ number. record { method = refl; context_path = refl; cookie_settings = refl; request_fields = refl; body = refl; moment = refl; reads_chunks = refl; client = refl; dispatches = refl; calls = refl; kept = refl; broken = refl; words = refl })) record { method = refl; context_path = refl; cookie_settings = refl; request_fields = refl; body = refl; moment = refl; reads_chunks = refl; client = refl; dispatches = refl; calls = refl; kept = refl; broken = refl; words = refl }

changed_request : (change : Change) (x : State) → SameRequest x (changed change x)
changed_request (SetStatus status) x = record { method = refl; context_path = refl; cookie_settings = refl; request_fields = refl; body = refl; moment = refl; reads_chunks = refl; client = refl; dispatches = refl; calls = refl; kept = refl; broken = refl; words = refl }
changed_request (SetHeader name value) x = record { method = refl; context_path = refl; cookie_settings = refl; request_fields = refl; body = refl; moment = refl; reads_chunks = refl; client = refl; dispatches = refl; calls = refl; kept = refl; broken = refl; words = refl }
changed_request (AddHeader name value) x = record { method = refl; context_path = refl; cookie_settings = refl; request_fields = refl; body = refl; moment = refl; reads_chunks = refl; client = refl; dispatches = refl; calls = refl; kept = refl; broken = refl; words = refl }
changed_request (Write bytes) x = record { method = refl; context_path = refl; cookie_settings = refl; request_fields = refl; body = refl; moment = refl; reads_chunks = refl; client = refl; dispatches = refl; calls = refl; kept = refl; broken = refl; words = refl }
changed_request (SetAttribute name value) x = record { method = refl; context_path = refl; cookie_settings = refl; request_fields = refl; body = refl; moment = refl; reads_chunks = refl; client = refl; dispatches = refl; calls = refl; kept = refl; broken = refl; words = refl }
changed_request Flush x = record { method = refl; context_path = refl; cookie_settings = refl; request_fields = refl; body = refl; moment = refl; reads_chunks = refl; client = refl; dispatches = refl; calls = refl; kept = refl; broken = refl; words = refl }
changed_request SessionOpen x = kept_request (has_session x) x (opened x) record { method = refl; context_path = refl; cookie_settings = refl; request_fields = refl; body = refl; moment = refl; reads_chunks = refl; client = refl; dispatches = refl; calls = refl; kept = refl; broken = refl; words = refl }
changed_request (SessionSet name value) x = on_session_request (with_attribute name value) x (λ number. record { method = refl; context_path = refl; cookie_settings = refl; request_fields = refl; body = refl; moment = refl; reads_chunks = refl; client = refl; dispatches = refl; calls = refl; kept = refl; broken = refl; words = refl })
changed_request (SessionRemove name) x =
    chosen_request (is_some (session_value name x)) x (on_session (without_attribute name) x)
    (on_session_request (without_attribute name) x (λ number. record { method = refl; context_path = refl; cookie_settings = refl; request_fields = refl; body = refl; moment = refl; reads_chunks = refl; client = refl; dispatches = refl; calls = refl; kept = refl; broken = refl; words = refl }))
changed_request SessionEnd x = on_session_request ended x (λ number. record { method = refl; context_path = refl; cookie_settings = refl; request_fields = refl; body = refl; moment = refl; reads_chunks = refl; client = refl; dispatches = refl; calls = refl; kept = refl; broken = refl; words = refl })
changed_request Logout x = chosen_request (is_some x.caller) x (logged_out x) (logged_out_request x)

left_request : (said : Result Bool ExchangeFault) (change : Change) (x : State) → SameRequest x (left_by said change x)
left_request (Ok true) change x = changed_request change x
left_request (Ok false) change x = request_same x
left_request (Err fault) change x = request_same x

pub made_request : (change : Change) (x : State) → SameRequest x (left_by (answer change x) change x)
made_request change x = left_request (answer change x) change x

all_request : (changes : List Change) (x : State) → SameRequest x (after_all changes x)
all_request [] x = request_same x
all_request (change ∷ changes) x =
    let y = left_by (answer change x) change x in
    request_then x y (after_all changes y) (made_request change x) (all_request changes y)

pub changes_keep : (x y : State) → Reaches x y → SameRequest x y
changes_keep x y changing = let reached = reaches_to x y changing in subst (SameRequest x) (sym reached.1) (all_request reached.0 x)
