-- Whom a server lets in, by the head of a handshake. The rules are this project's; RFC 9110, section 5.1, says that the
-- names of fields ignore case, and RFC 6454, section 6.2, how an origin is written.
use Rattle.std.specs.Prelude.{◌≡◌, ◌||◌, ◌&&◌, ◌==◌, ℕ, Bool, true, false, cond, not, List, [], ◌∷◌, Option, Some, None, Ok, length, map, option_map, take, drop, bytes_eq, codes, string_bytes}
use Rattle.std.specs.Char.{is_ascii_digit}
use Rattle.std.specs.List.{list_all, list_any}
use Rattle.httparse.specs.Spans.{IsRequestOf, IsRequestWithin, span_bytes}
use Rattle.httparse.specs.declared.spans.HeaderSpan.{HeaderSpan}
use Rattle.httparse.specs.declared.spans.RequestSpans.{RequestSpans}
use Rattle.tungstenite.specs.Socket.{Socket, IsFresh}
use Rattle.websocket.specs.Handshake.{IsValidKey, requested_key}
use Rattle.websocket.specs.Headers.{Fields, eq_ignore_case, fields_of}
use Rattle.room_session.specs.Prelude.{author_of}
use Rattle.room_session.specs.declared.caller.Caller.{Caller}
use Rattle.room_session.specs.declared.caller.Caller.TheVariants.{Anyone, Nobody, Only}
use Rattle.room_interface.specs.declared.author.Author.{Author}
use Rattle.room_socket.specs.declared.admission.Admission.{Admission}
use Rattle.room_session.specs.declared.caller.Caller.TheVariants as callers
use Rattle.websocket.specs.declared.protocol.config.Role.TheVariants as Role

-- whom a server lets in
pub record Rule : Type 0 where
  -- the header that names the author, or nothing if each hello is believed
  pub name_header : Option (List ℕ)
  -- whether somebody whom the header does not name may watch
  pub watchers : Bool
  -- the origins that are let in, in addition to those of this machine
  pub origins : List (List ℕ)

abbrev pub rule_of : Admission → Rule
rule_of admission = record {
  name_header = option_map string_bytes admission.name_header;
  watchers = admission.watchers;
  origins = map string_bytes admission.origins.items;
}

-- ---- who calls

-- the values of the fields with this name, in order
abbrev pub values_of : Fields → List ℕ → List (List ℕ)
values_of [] name = []
values_of (field ∷ later) name =
    cond (eq_ignore_case field.0 name) (field.1 ∷ values_of later name) (values_of later name)

-- the only element of a list, if it has one alone
abbrev pub sole : {X : Type 0} → List X → Option X
sole [] = None
sole (x ∷ []) = Some x
sole (x ∷ y ∷ later) = None

-- somebody whom the handshake does not name
abbrev pub unnamed : Bool → Caller
unnamed watchers = cond watchers callers.Watcher Nobody

abbrev pub only_or : Option Author → Caller → Caller
only_or None other = other
only_or (Some author) other = Only author

-- the caller of whom the header has this value, if it has one alone: this has to be an author's name
abbrev pub named : Bool → Option (List ℕ) → Caller
named watchers None = unnamed watchers
named watchers (Some value) = only_or (author_of value) (unnamed watchers)

abbrev pub caller_by : Option (List ℕ) → Bool → Fields → Caller
caller_by None watchers fields = Anyone
caller_by (Some name) watchers fields = named watchers (sole (values_of fields name))

-- the caller of a handshake with these fields
abbrev pub caller_of : Rule → Fields → Caller
caller_of rule fields = caller_by rule.name_header rule.watchers fields

-- ---- from where

-- a colon and the number of a port, or nothing, which is the port of the scheme
abbrev pub is_port : List ℕ → Bool
is_port [] = true
is_port (first ∷ digits) = first == 58 && list_all is_ascii_digit digits

-- the origin is this place, on any port
abbrev pub is_at : List ℕ → List ℕ → Bool
is_at origin place = bytes_eq (take (length place) origin) place && is_port (drop (length place) origin)

-- the origin is a loopback address, on any port
abbrev pub is_loopback : List ℕ → Bool
is_loopback origin =
    is_at origin (codes "http://127.0.0.1") || is_at origin (codes "https://127.0.0.1")
    || is_at origin (codes "http://[::1]") || is_at origin (codes "https://[::1]")

-- the origin is that of a page that this machine serves, on any port
abbrev pub is_local : List ℕ → Bool
is_local origin = is_at origin (codes "http://localhost") || is_at origin (codes "https://localhost") || is_loopback origin

-- pages of this origin may connect
abbrev pub may_come : Rule → List ℕ → Bool
may_come rule origin = is_local origin || list_any (λ given. bytes_eq given origin) rule.origins

-- each origin of a handshake may come; programs other than browsers send none
abbrev pub lets_in : Rule → Fields → Bool
lets_in rule [] = true
lets_in rule (field ∷ later) =
    cond (eq_ignore_case field.0 (codes "Origin") && not (may_come rule field.1)) false (lets_in rule later)

-- ---- the handshake

-- the bytes are the head of a request for an upgrade with a valid key, from an origin that may come, by this caller
pub record IsLetIn (rule : Rule) (caller : Caller) (head : List ℕ) : Type 0 where
  pub request : RequestSpans
  pub spans : List HeaderSpan
  pub within : IsRequestWithin head spans request
  pub is : IsRequestOf head spans request
  pub key : List ℕ
  pub asked : requested_key (span_bytes head request.method) request.version (fields_of head (take request.headers spans)) ≡ Ok key
  pub valid : IsValidKey key
  pub origin : lets_in rule (fields_of head (take request.headers spans)) ≡ true
  pub called : caller ≡ caller_of rule (fields_of head (take request.headers spans))

module _ {S : Type 0} where
  -- the socket is that of a handshake which let this caller in, and has done nothing since (RFC 6455, section 4.2)
  abbrev pub Admits : Rule → Caller → Socket S → Type 0
  Admits rule caller socket =
      ((head : List ℕ) × IsLetIn rule caller head) × ((stream : S) × IsFresh socket stream Role.Server)
