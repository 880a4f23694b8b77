-- What a parse of the command gives.
use Rattle.std.proofs.Common.{◌≡◌, ◌≢◌, ◌∙◌, Bool, true, false, refl, sym, ap, List, ℕ, [], ◌∷◌, Option, Some, None}
use Rattle.std.specs.Prelude.{unwrap_or, codes, bytes_eq}
use Rattle.std.specs.Option.{option_map_or}
use Rattle.std.specs.Str.Parse.{ParsesBool}
use Rattle.std.specs.declared.str.ParseBoolError.{ParseBoolError}
use Rattle.std.proofs.lemmas.Slice.Eq.{bytes_eq-Decides}
use Rattle.clap.specs.Words.{IsAmong, Kinds, ReadsOne, Row, is_simple, is_simple_and_free}
use Rattle.clap.specs.declared.error.kind.ErrorKind.{ErrorKind}
use Rattle.clap.proofs.OnLiterals.{clap_on_literals}
use Rattle.settings.specs.Asked.{after_parse, asked_in}
use Rattle.settings.specs.Command.{dejavu}

-- the command is one whose matches and faults are stated
pub is_free : is_simple_and_free dejavu ≡ true
unfolding dejavu clap_on_literals
is_free = refl

pub is_plain : is_simple dejavu ≡ true
unfolding dejavu clap_on_literals
is_plain = refl

pub after_parse-clean : (kinds : Kinds) (stated found : List Row) → kinds ≡ [] → found ≡ stated → after_parse kinds stated ≡ asked_in found
after_parse-clean kinds stated found none same = ap (λ (k : Kinds). after_parse k stated) none ∙ ap asked_in (sym same)

pub after_parse-fault : (kind : ErrorKind) (kinds : Kinds) (stated : List Row) → IsAmong kind kinds → after_parse kinds stated ≡ None
after_parse-fault kind [] stated among = absurd among
after_parse-fault kind (k ∷ ks) stated among = refl

is_true_text : (text : List ℕ) (b : Bool) → bytes_eq text (codes "true") ≡ b → text ≢ codes "true" → false ≡ bytes_eq text (codes "true")
is_true_text text true e ne = absurd (ne ((bytes_eq-Decides text (codes "true")).0 e))
is_true_text text false e ne = sym e

-- a flag's text read as a `bool`
pub flag_read : (text : Option (List ℕ)) (r : Option Bool) → (text ≡ None → r ≡ None) → ((t : List ℕ) → text ≡ Some t → ReadsOne {E = ParseBoolError} ParsesBool t r)
    → unwrap_or r false ≡ option_map_or (λ t. bytes_eq t (codes "true")) text false
flag_read None r none value = ap (λ (o : Option Bool). unwrap_or o false) (none refl)
flag_read (Some t) (Some true) none value = ap (λ (u : List ℕ). bytes_eq u (codes "true")) (sym (value t refl))
flag_read (Some t) (Some false) none value = ap (λ (u : List ℕ). bytes_eq u (codes "true")) (sym (value t refl))
flag_read (Some t) None none value = is_true_text t (bytes_eq t (codes "true")) refl (value t refl).1.0
