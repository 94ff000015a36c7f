use Rattle.std.proofs.Common.{[], ◌∷◌, codes, refl}
use Rattle.sv_descriptor.specs.Ignored.{ignored_keys}
use Rattle.sv_descriptor.specs.WebApp.{top_keys}
use Rattle.sv_program.proofs.KeyLaws.{all_known}
use Rattle.sv_program.proofs.key_law.each_key_is_described.Goals as goal

pub returns-clause-server : goal.returns-clause-server
returns-clause-server c = λ members value h. all_known (codes "") (codes "port" ∷ codes "seed" ∷ codes "context" ∷ []) [] members _ value refl h

pub returns-clause-context : goal.returns-clause-context
returns-clause-context c = λ members value h. all_known (codes "context") (codes "path" ∷ codes "descriptor" ∷ codes "files" ∷ codes "users" ∷ []) [] members _ value refl h

pub returns-clause-users : goal.returns-clause-users
returns-clause-users c = λ members value h. all_known (codes "") (codes "user" ∷ []) [] members _ value refl h

pub returns-clause-user : goal.returns-clause-user
returns-clause-user c = λ members value h. all_known (codes "user") (codes "name" ∷ codes "salt" ∷ codes "digest" ∷ codes "roles" ∷ []) [] members _ value refl h

pub returns-clause-descriptor : goal.returns-clause-descriptor
returns-clause-descriptor c = λ members value h. all_known (codes "") top_keys ignored_keys members _ value refl h

pub returns-clause-servlet : goal.returns-clause-servlet
returns-clause-servlet c = λ members value h. all_known (codes "servlet") (codes "servlet-name" ∷ codes "servlet-class" ∷ codes "load-on-startup" ∷ codes "init-param" ∷ []) ignored_keys members _ value refl h

pub returns-clause-servlet_mapping : goal.returns-clause-servlet_mapping
returns-clause-servlet_mapping c = λ members value h. all_known (codes "servlet-mapping") (codes "servlet-name" ∷ codes "url-pattern" ∷ []) ignored_keys members _ value refl h

pub returns-clause-filter : goal.returns-clause-filter
returns-clause-filter c = λ members value h. all_known (codes "filter") (codes "filter-name" ∷ codes "filter-class" ∷ codes "init-param" ∷ []) ignored_keys members _ value refl h

pub returns-clause-filter_mapping : goal.returns-clause-filter_mapping
returns-clause-filter_mapping c = λ members value h. all_known (codes "filter-mapping") (codes "filter-name" ∷ codes "url-pattern" ∷ codes "servlet-name" ∷ codes "dispatcher" ∷ []) ignored_keys members _ value refl h

pub returns-clause-listener : goal.returns-clause-listener
returns-clause-listener c = λ members value h. all_known (codes "listener") (codes "listener-class" ∷ []) ignored_keys members _ value refl h

pub returns-clause-session_1 : goal.returns-clause-session_1
returns-clause-session_1 c = λ members value h. all_known (codes "session-config") (codes "session-timeout" ∷ []) ignored_keys members _ value refl h

pub returns-clause-session_2 : goal.returns-clause-session_2
returns-clause-session_2 c = λ members value h. all_known (codes "session-config") (codes "session-timeout" ∷ codes "cookie-config" ∷ []) ignored_keys members _ value refl h

pub returns-clause-cookie : goal.returns-clause-cookie
returns-clause-cookie c = λ members value h. all_known (codes "cookie-config") (codes "name" ∷ codes "path" ∷ codes "http-only" ∷ codes "max-age" ∷ []) ignored_keys members _ value refl h

pub returns-clause-welcome_files : goal.returns-clause-welcome_files
returns-clause-welcome_files c = λ members value h. all_known (codes "welcome-file-list") (codes "welcome-file" ∷ []) ignored_keys members _ value refl h

pub returns-clause-error_page : goal.returns-clause-error_page
returns-clause-error_page c = λ members value h. all_known (codes "error-page") (codes "error-code" ∷ codes "exception-type" ∷ codes "location" ∷ []) ignored_keys members _ value refl h

pub returns-clause-constraint : goal.returns-clause-constraint
returns-clause-constraint c = λ members value h. all_known (codes "security-constraint") (codes "web-resource-collection" ∷ codes "auth-constraint" ∷ codes "user-data-constraint" ∷ []) ignored_keys members _ value refl h

pub returns-clause-authorization : goal.returns-clause-authorization
returns-clause-authorization c = λ members value h. all_known (codes "auth-constraint") (codes "role-name" ∷ []) ignored_keys members _ value refl h

pub returns-clause-transport : goal.returns-clause-transport
returns-clause-transport c = λ members value h. all_known (codes "user-data-constraint") (codes "transport-guarantee" ∷ []) ignored_keys members _ value refl h

pub returns-clause-role : goal.returns-clause-role
returns-clause-role c = λ members value h. all_known (codes "security-role") (codes "role-name" ∷ []) ignored_keys members _ value refl h

pub returns-clause-login : goal.returns-clause-login
returns-clause-login c = λ members value h. all_known (codes "login-config") (codes "auth-method" ∷ codes "form-login-config" ∷ []) ignored_keys members _ value refl h

pub returns-clause-form_login : goal.returns-clause-form_login
returns-clause-form_login c = λ members value h. all_known (codes "form-login-config") (codes "form-login-page" ∷ codes "form-error-page" ∷ []) ignored_keys members _ value refl h

pub returns-clause-collection : goal.returns-clause-collection
returns-clause-collection c = λ room members value h.
    all_known (codes "web-resource-collection") (codes "web-resource-name" ∷ codes "url-pattern" ∷ codes "http-method" ∷ codes "http-method-omission" ∷ []) ignored_keys members _ value refl h
