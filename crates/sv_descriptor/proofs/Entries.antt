-- Properties of each entry of a descriptor that was read.
use Rattle.std.proofs.Common.{◌≡◌, ℕ, ℤ, pos, negsuc, ◌≤◌, Bool, true, false, codes, List, [], ◌∷◌, length, Option, None, Some, Ok, refl, subst, arith}
use Rattle.std.specs.Prelude.{◌||◌, if◌then◌else◌, int_lt, IfSome}
use Rattle.std.proofs.lemmas.Bool.Decides.{nat_tests}
use Rattle.http_header.specs.Token.{is_token_byte}
use Rattle.toml.specs.Data.{Members}
use Rattle.sv_descriptor.specs.Fault.{Located, refuse, check}
use Rattle.sv_descriptor.specs.ListOf.{list_of_texts}
use Rattle.sv_descriptor.specs.Table.{has_key, optional, optional_or, required}
use Rattle.sv_descriptor.specs.Value.{is_text, name, table_of, text_of, truth, whole_of, number_between}
use Rattle.sv_descriptor.specs.declared.fault.FaultCode.{FaultCode}
use Rattle.sv_descriptor.specs.declared.fault.FaultCode.TheVariants.{BadValue, MissingKey, ReservedRole, BadTimeout}
use Rattle.sv_descriptor.specs.declared.limits.TheConstants.{MAX_LIST_ITEMS}
use Rattle.sv_descriptor.proofs.Yields.{bind-Ok, holds-Ok, list_of-short, text_of-yields, whole_of-yields, table_of-yields, required-Ok, optional-Ok, optional_or-Ok}
use Rattle.sv_message.specs.Cookies.{standard_settings}
use Rattle.sv_message.specs.declared.cookie_settings.CookieSettings.{CookieSettings}
use Rattle.sv_descriptor.specs.CookieConfig.{age_of, cookie_config, cookie_name, cookie_path, is_cookie_name, is_cookie_path, max_age}
use Rattle.sv_descriptor.specs.ErrorPage.{error_page, page_for}
use Rattle.sv_descriptor.specs.Filter.{dispatcher, filter_mapping}
use Rattle.sv_descriptor.specs.Ignored.{element_keys}
use Rattle.sv_descriptor.specs.InitParam.{init_params}
use Rattle.sv_descriptor.specs.Location.{is_location, location}
use Rattle.sv_descriptor.specs.Login.{auth_method, form_login_config, login_config}
use Rattle.sv_descriptor.specs.Pattern.{pattern, patterns}
use Rattle.sv_descriptor.specs.Role.{is_reserved_role, role_name, security_role}
use Rattle.sv_descriptor.specs.Servlet.{is_reserved_servlet, servlet, servlet_mapping, servlet_name, startup_order}
use Rattle.sv_descriptor.specs.Session.{minutes, session_config, session_keys, session_timeout}
use Rattle.sv_descriptor.specs.WelcomeFile.{welcome_file, welcome_file_list}
use Rattle.sv_descriptor.specs.WellFormed.{CanBeSet, HasShortLists}
use Rattle.sv_descriptor.specs.declared.error_page.ErrorPage.{ErrorPage}
use Rattle.sv_descriptor.specs.declared.filter.FilterMapping.{FilterMapping}
use Rattle.sv_descriptor.specs.declared.limits.TheConstants.{DEFAULT_SESSION_TIMEOUT, MAX_COOKIE_AGE, MAX_ERROR_CODE, MAX_SESSION_TIMEOUT, MIN_ERROR_CODE}
use Rattle.sv_descriptor.specs.declared.login.FormLogin.{FormLogin}
use Rattle.sv_descriptor.specs.declared.servlet.ServletEntry.{ServletEntry}
use Rattle.sv_descriptor.specs.declared.servlet.ServletMapping.{ServletMapping}
use Rattle.sv_descriptor.specs.declared.session.SessionConfig.{SessionConfig}
use Rattle.sv_descriptor.specs.declared.version.Version.{Version}

-- A list at an optional key.
texts-short : {A : Type 0} (reads : List ℕ → List ℕ → Located A) (key : List ℕ) (members : Members) (found : List A)
    → optional_or [] (list_of_texts 0 MAX_LIST_ITEMS reads) key members ≡ Ok found → length found ≤ MAX_LIST_ITEMS
texts-short reads key members found e =
    optional_or-Ok (λ found. length found ≤ MAX_LIST_ITEMS) [] (list_of_texts 0 MAX_LIST_ITEMS reads) (omega arith) (list_of-short 0 MAX_LIST_ITEMS is_text (text_of reads)) key members found e

-- A text that is read only if a test holds passes the test.
accepted : (holds : Bool) (code : FaultCode) (key text a : List ℕ) → (if holds then Ok text else refuse code key) ≡ Ok a → (holds ≡ true) × (text ≡ a)
accepted true code key text a h = (refl, cc)
accepted false code key text a h = cc

-- A text that is refused if a test holds, and otherwise read as a name.
free : (reserved : Bool) (code : FaultCode) (key text a : List ℕ) → (if reserved then refuse code key else name key text) ≡ Ok a → (reserved ≡ false) × (text ≡ a)
free true code key text a h = cc
free false code key text a h = (refl, (accepted _ BadValue key text a h).1)

-- servlets.
pub servlet-Ok : (members : Members) (s : ServletEntry) → servlet members ≡ Ok s → is_reserved_servlet s.servlet_name ≡ false
servlet-Ok members s e =
    bind-Ok (element_keys (codes "servlet-name" ∷ codes "servlet-class" ∷ codes "load-on-startup" ∷ codes "init-param" ∷ []) members) _ _ e (λ _ _ e1.
    bind-Ok (required (text_of servlet_name) (codes "servlet-name") members) _ _ e1 (λ its_name named e2.
    bind-Ok (required (text_of name) (codes "servlet-class") members) _ _ e2 (λ _ _ e3.
    bind-Ok (optional (whole_of startup_order) (codes "load-on-startup") members) _ _ e3 (λ _ _ e4.
    bind-Ok (optional_or [] (table_of init_params) (codes "init-param") members) _ _ e4 (λ _ _ e5.
    holds-Ok (λ s. is_reserved_servlet s.servlet_name ≡ false) _ s e5
    (required-Ok (λ t. is_reserved_servlet t ≡ false) (text_of servlet_name)
    (text_of-yields _ servlet_name (λ key text a h. let (f, t) = free (is_reserved_servlet text) BadValue key text a h in subst (λ t. is_reserved_servlet t ≡ false) t f))
    (codes "servlet-name") members its_name named))))))

pub servlet_mapping-Ok : (members : Members) (m : ServletMapping) → servlet_mapping members ≡ Ok m → length m.url_patterns ≤ MAX_LIST_ITEMS
servlet_mapping-Ok members m e =
    bind-Ok (element_keys (codes "servlet-name" ∷ codes "url-pattern" ∷ []) members) _ _ e (λ _ _ e1.
    bind-Ok (required (text_of name) (codes "servlet-name") members) _ _ e1 (λ _ _ e2.
    bind-Ok (required (patterns 1 MAX_LIST_ITEMS) (codes "url-pattern") members) _ _ e2 (λ found read e3.
    holds-Ok (λ m. length m.url_patterns ≤ MAX_LIST_ITEMS) _ m e3
    (required-Ok (λ found. length found ≤ MAX_LIST_ITEMS) (patterns 1 MAX_LIST_ITEMS) (list_of-short 1 MAX_LIST_ITEMS is_text (text_of pattern)) (codes "url-pattern") members found read))))

-- filters.
pub filter_mapping-Ok : (members : Members) (m : FilterMapping) → filter_mapping members ≡ Ok m → HasShortLists m
filter_mapping-Ok members m e =
    bind-Ok (element_keys (codes "filter-name" ∷ codes "url-pattern" ∷ codes "servlet-name" ∷ codes "dispatcher" ∷ []) members) _ _ e (λ _ _ e1.
    bind-Ok (required (text_of name) (codes "filter-name") members) _ _ e1 (λ _ _ e2.
    bind-Ok (check (has_key (codes "url-pattern") members || has_key (codes "servlet-name") members) MissingKey (codes "url-pattern")) _ _ e2 (λ _ _ e3.
    bind-Ok (optional_or [] (patterns 0 MAX_LIST_ITEMS) (codes "url-pattern") members) _ _ e3 (λ a1 r1 e4.
    bind-Ok (optional_or [] (list_of_texts 0 MAX_LIST_ITEMS name) (codes "servlet-name") members) _ _ e4 (λ a2 r2 e5.
    bind-Ok (optional_or [] (list_of_texts 0 MAX_LIST_ITEMS dispatcher) (codes "dispatcher") members) _ _ e5 (λ a3 r3 e6.
    holds-Ok HasShortLists _ m e6 (record {
      url_patterns = texts-short pattern (codes "url-pattern") members a1 r1;
      servlet_names = texts-short name (codes "servlet-name") members a2 r2;
      dispatchers = texts-short dispatcher (codes "dispatcher") members a3 r3;
    })))))))

-- roles.
pub security_role-Ok : (members : Members) (role : List ℕ) → security_role members ≡ Ok role → is_reserved_role role ≡ false
security_role-Ok members role e =
    bind-Ok (element_keys (codes "role-name" ∷ []) members) _ _ e (λ _ _ e1.
    required-Ok (λ t. is_reserved_role t ≡ false) (text_of role_name)
    (text_of-yields _ role_name (λ key text a h. let (f, t) = free (is_reserved_role text) ReservedRole key text a h in subst (λ t. is_reserved_role t ≡ false) t f))
    (codes "role-name") members role e1)

-- pages.
page-Ok : (key : List ℕ) (members : Members) (page : List ℕ) → required (text_of location) key members ≡ Ok page → is_location page ≡ true
page-Ok key members page e =
    required-Ok (λ t. is_location t ≡ true) (text_of location)
    (text_of-yields _ location (λ key text a h. let (f, t) = accepted (is_location text) BadValue key text a h in subst (λ t. is_location t ≡ true) t f))
    key members page e

pub error_page-Ok : (members : Members) (page : ErrorPage) → error_page members ≡ Ok page → is_location page.location ≡ true
error_page-Ok members page e =
    bind-Ok (element_keys (codes "error-code" ∷ codes "exception-type" ∷ codes "location" ∷ []) members) _ _ e (λ _ _ e1.
    bind-Ok (optional (whole_of (number_between MIN_ERROR_CODE MAX_ERROR_CODE)) (codes "error-code") members) _ _ e1 (λ status _ e2.
    bind-Ok (optional (text_of name) (codes "exception-type") members) _ _ e2 (λ exception _ e3.
    bind-Ok (page_for status exception) _ _ e3 (λ _ _ e4.
    bind-Ok (required (text_of location) (codes "location") members) _ _ e4 (λ place read e5.
    holds-Ok (λ page. is_location page.location ≡ true) _ page e5 (page-Ok (codes "location") members place read))))))

pub welcome_file_list-Ok : (members : Members) (files : List (List ℕ)) → welcome_file_list members ≡ Ok files → length files ≤ MAX_LIST_ITEMS
welcome_file_list-Ok members files e =
    bind-Ok (element_keys (codes "welcome-file" ∷ []) members) _ _ e (λ _ _ e1.
    required-Ok (λ found. length found ≤ MAX_LIST_ITEMS) (list_of_texts 0 MAX_LIST_ITEMS welcome_file)
    (list_of-short 0 MAX_LIST_ITEMS is_text (text_of welcome_file)) (codes "welcome-file") members files e1)

-- Both pages of a login have canonical paths.
pub record HasPages (login : FormLogin) : Type 0 where
  pub login_page : is_location login.login_page ≡ true
  pub error_page : is_location login.error_page ≡ true

form_login_config-Ok : (members : Members) (login : FormLogin) → form_login_config members ≡ Ok login → HasPages login
form_login_config-Ok members login e =
    bind-Ok (element_keys (codes "form-login-page" ∷ codes "form-error-page" ∷ []) members) _ _ e (λ _ _ e1.
    bind-Ok (required (text_of location) (codes "form-login-page") members) _ _ e1 (λ its_login login_read e2.
    bind-Ok (required (text_of location) (codes "form-error-page") members) _ _ e2 (λ its_error error_read e3.
    holds-Ok HasPages _ login e3 (record {
      login_page = page-Ok (codes "form-login-page") members its_login login_read;
      error_page = page-Ok (codes "form-error-page") members its_error error_read;
    }))))

pub login_config-Ok : (members : Members) (login : FormLogin) → login_config members ≡ Ok login → HasPages login
login_config-Ok members login e =
    bind-Ok (element_keys (codes "auth-method" ∷ codes "form-login-config" ∷ []) members) _ _ e (λ _ _ e1.
    bind-Ok (required (text_of auth_method) (codes "auth-method") members) _ _ e1 (λ _ _ e2.
    required-Ok HasPages (table_of form_login_config) (table_of-yields HasPages form_login_config form_login_config-Ok) (codes "form-login-config") members login e2))

-- sessions.
bounded : (long : Bool) (key : List ℕ) (n : ℤ) (a : ℕ) → int_lt (pos MAX_SESSION_TIMEOUT) n ≡ long → (if long then refuse BadTimeout key else Ok (minutes n)) ≡ Ok a → a ≤ MAX_SESSION_TIMEOUT
bounded true key n a l h = cc
bounded false key (pos n) a l h =
    let same : n ≡ a = cc in
    let short : n ≤ MAX_SESSION_TIMEOUT = grind (arith, nat_tests) in
    subst (λ t. t ≤ MAX_SESSION_TIMEOUT) same short
bounded false key (negsuc n) a l h = let same : 0 ≡ a = cc in omega arith

-- The session cookie.
aged : (low high : Bool) (key : List ℕ) (n : ℤ) (a : Option ℕ) → int_lt n (negsuc 0) ≡ low → int_lt (pos MAX_COOKIE_AGE) n ≡ high
    → (if low || high then refuse BadValue key else Ok (age_of n)) ≡ Ok a → IfSome a (λ seconds. seconds ≤ MAX_COOKIE_AGE)
aged true high key n a l g h = cc
aged false true key n a l g h = cc
aged false false key (pos n) a l g h =
    let same : Some n ≡ a = cc in
    let short : n ≤ MAX_COOKIE_AGE = grind (arith, nat_tests) in
    subst (λ (age : Option ℕ). IfSome age (λ seconds. seconds ≤ MAX_COOKIE_AGE)) same short
aged false false key (negsuc n) a l g h =
    let same : None ≡ a = cc in
    subst (λ (age : Option ℕ). IfSome age (λ seconds. seconds ≤ MAX_COOKIE_AGE)) same tt

standard_name : is_cookie_name (codes "JSESSIONID") ≡ true
unfolding is_cookie_name is_token_byte
standard_name = refl

pub standard-Ok : CanBeSet standard_settings
standard-Ok = record { name = standard_name; path = tt; max_age = tt }

cookie_config-Ok : (members : Members) (settings : CookieSettings) → cookie_config members ≡ Ok settings → CanBeSet settings
cookie_config-Ok members settings e =
    bind-Ok (element_keys (codes "name" ∷ codes "path" ∷ codes "http-only" ∷ codes "max-age" ∷ []) members) _ _ e (λ _ _ e1.
    bind-Ok (optional_or standard_settings.name (text_of cookie_name) (codes "name") members) _ _ e1 (λ its_name named e2.
    bind-Ok (optional (text_of cookie_path) (codes "path") members) _ _ e2 (λ its_path placed e3.
    bind-Ok (optional_or true truth (codes "http-only") members) _ _ e3 (λ _ _ e4.
    bind-Ok (optional_or None (whole_of max_age) (codes "max-age") members) _ _ e4 (λ its_age read e5.
    holds-Ok CanBeSet _ settings e5 (record {
      name = optional_or-Ok (λ t. is_cookie_name t ≡ true) standard_settings.name (text_of cookie_name) standard_name
          (text_of-yields _ cookie_name (λ key text a h. let (f, t) = accepted (is_cookie_name text) BadValue key text a h in subst (λ t. is_cookie_name t ≡ true) t f))
          (codes "name") members its_name named;
      path = optional-Ok (λ t. is_cookie_path t ≡ true) (text_of cookie_path)
          (text_of-yields _ cookie_path (λ key text a h. let (f, t) = accepted (is_cookie_path text) BadValue key text a h in subst (λ t. is_cookie_path t ≡ true) t f))
          (codes "path") members its_path placed;
      max_age = optional_or-Ok (λ age. IfSome age (λ seconds. seconds ≤ MAX_COOKIE_AGE)) None (whole_of max_age) tt
          (whole_of-yields _ max_age (λ key n a h. aged (int_lt n (negsuc 0)) (int_lt (pos MAX_COOKIE_AGE) n) key n a refl refl h))
          (codes "max-age") members its_age read;
    }))))))

-- The properties of the session configuration.
pub record HasSessions (config : SessionConfig) : Type 0 where
  pub timeout : config.timeout ≤ MAX_SESSION_TIMEOUT
  pub cookie : CanBeSet config.cookie

pub session_config-Ok : (its_version : Version) (members : Members) (config : SessionConfig) → session_config its_version members ≡ Ok config → HasSessions config
session_config-Ok its_version members config e =
    bind-Ok (element_keys (session_keys its_version) members) _ _ e (λ _ _ e1.
    bind-Ok (optional_or DEFAULT_SESSION_TIMEOUT (whole_of session_timeout) (codes "session-timeout") members) _ _ e1 (λ its_timeout timed e2.
    bind-Ok (optional_or standard_settings (table_of cookie_config) (codes "cookie-config") members) _ _ e2 (λ its_cookie cookied e3.
    holds-Ok HasSessions _ config e3 (record {
      timeout = optional_or-Ok (λ t. t ≤ MAX_SESSION_TIMEOUT) DEFAULT_SESSION_TIMEOUT (whole_of session_timeout) (omega arith)
          (whole_of-yields _ session_timeout (λ key n a h. bounded (int_lt (pos MAX_SESSION_TIMEOUT) n) key n a refl h))
          (codes "session-timeout") members its_timeout timed;
      cookie = optional_or-Ok CanBeSet standard_settings (table_of cookie_config) standard-Ok (table_of-yields CanBeSet cookie_config cookie_config-Ok)
          (codes "cookie-config") members its_cookie cookied;
    }))))
