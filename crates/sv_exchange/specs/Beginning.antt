-- The state of an exchange when it begins, and the response when it ends.
use Rattle.std.specs.Prelude.{ℕ, ◌==◌, Bool, true, false, List, [], ◌++◌, Option, None, codes, if◌then◌else◌}
use Rattle.std.specs.Option.{option_and_then, option_map}
use Rattle.sv_session.specs.Calls.{id_of}
use Rattle.sv_session.specs.Store.{Store, empty_store}
use Rattle.sv_message.specs.Chunking.{piece_of}
use Rattle.sv_message.specs.declared.body.Body.{Body}
use Rattle.sv_message.specs.declared.body.Body.TheVariants.{Whole, Flushed}
use Rattle.sv_message.specs.declared.cookie_settings.CookieSettings.{CookieSettings}
use Rattle.sv_message.specs.declared.response.Cookie.{Cookie}
use Rattle.sv_message.specs.declared.response.Response.{Response}
use Rattle.sv_exchange.specs.declared.session_queries.HeldSession.{HeldSession}
use Rattle.sv_exchange.specs.declared.limits.TheConstants.{OK}
use Rattle.sv_exchange.specs.Asked.{Asked}
use Rattle.sv_exchange.specs.Paths.{paths_at}
use Rattle.sv_exchange.specs.Sessions.{cookie_of}
use Rattle.sv_exchange.specs.State.{State}

-- The cookie of the session that a request holds, if its message opened or renamed the session.
abbrev pub renewed_cookie : CookieSettings → List ℕ → Store → HeldSession → Option Cookie
renewed_cookie settings context_path store held =
    if held.is_renewed then option_map (cookie_of settings context_path) (id_of held.number store) else None

-- A cookie without a name.
abbrev pub no_settings : CookieSettings
no_settings = record { name = []; path = None; http_only = false; max_age = None }

-- An exchange without a request or a response.
abbrev pub unasked : State
unasked = record {
  method = codes "GET";
  context_path = [];
  cookie_settings = no_settings;
  request_fields = [];
  body = [];
  moment = 0;
  reads_chunks = false;
  client = paths_at [] [] None None None;
  dispatches = [];
  attributes = [];
  status = OK;
  fields = [];
  flushed = [];
  buffer = [];
  committed = false;
  broken = false;
  calls = 0;
  kept = None;
  words = (0, 0);
  store = empty_store 0 0;
  session = None;
  caller = None;
  cookie = None;
  events = [];
}

-- An exchange with a new request: no dispatch is active, the response is empty, and there are no events.
abbrev pub begun : Asked → List ℕ → CookieSettings → Option HeldSession → Store → State
begun asked context_path settings held store = record {
  method = asked.message.method;
  context_path = context_path;
  cookie_settings = settings;
  request_fields = asked.message.fields;
  body = asked.message.body;
  moment = asked.moment;
  reads_chunks = asked.message.minor == 1;
  client = paths_at context_path asked.canon.path None None asked.canon.query;
  dispatches = [];
  attributes = [];
  status = OK;
  fields = [];
  flushed = [];
  buffer = [];
  committed = false;
  broken = false;
  calls = 0;
  kept = None;
  words = asked.words;
  store = store;
  session = option_map (λ session. session.number) held;
  caller = option_and_then (λ session. session.caller) held;
  cookie = option_and_then (renewed_cookie settings context_path store) held;
  events = [];
}

-- The bytes written since the last flush are the last piece, unless the response is truncated.
abbrev pub last_piece : Bool → List ℕ → List (List ℕ)
last_piece broken buffer = if broken then [] else piece_of buffer

-- The body is whole until the response is committed, and then it is sent in pieces (section 5.1).
abbrev pub body_of : Bool → List (List ℕ) → List ℕ → Bool → Bool → Body
body_of false flushed buffer chunked broken = Whole buffer
body_of true flushed buffer chunked broken = Flushed (flushed ++ last_piece broken buffer) chunked broken

-- The response of an exchange that ends.
abbrev pub finished : State → Response
finished x = record { status = x.status; fields = x.fields; cookie = x.cookie; body = body_of x.committed x.flushed x.buffer x.reads_chunks x.broken }
