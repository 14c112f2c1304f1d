-- The start of a line has a spelling, and a short one.
use Rattle.std.proofs.Common.{◌≡◌, ◌≤◌, ◌<◌, ◌+◌, ◌^◌, ℕ, List, [], ◌∷◌, ◌++◌, length, IsUtf8, refl, sym, ◌∙◌, ap, subst, arith}
use Rattle.std.proofs.lemmas.List.{length-append}
use Rattle.std.proofs.lemmas.Str.{IsUtf8-from_ascii}
use Rattle.wf_events.specs.Records.{Started}
use Rattle.wf_events.specs.Spelling.{record_bytes, HasSpelling, IsArgument, IsRoute, IsPair, route}
use Rattle.wf_record_parts.specs.Spelling.{Each, IsText, string, eight, four, listed, pair}
use Rattle.wf_value.specs.Events.{Start}

-- an argument that may stand in a record, and is short
abbrev pub IsShortArgument : List ℕ → Type 0
IsShortArgument a = IsArgument a × (length a < 196608)

-- ## Lengths
string_is : (s : List ℕ) → length (string s) ≡ 4 + length s
string_is s = length-append (four (length s)) s

eight_is : (n : ℕ) → length (eight n) ≡ 8
eight_is n = refl

seven : (a b c d e f g : List ℕ) → length (a ++ b ++ c ++ d ++ e ++ f ++ g) ≡ length a + length b + length c + length d + length e + length f + length g
seven a b c d e f g =
    omega (arith, length-append a b, length-append (a ++ b) c, length-append (a ++ b ++ c) d, length-append (a ++ b ++ c ++ d) e, length-append (a ++ b ++ c ++ d ++ e) f, length-append (a ++ b ++ c ++ d ++ e ++ f) g)

-- the spelling of a start without an address for callbacks
start_is : (s : Start) → s.base ≡ [] → length (record_bytes (Started s)) ≡ 25 + length s.id + length s.source + length s.argument + length (listed route s.routes) + length (listed pair s.env)
unfolding record_bytes
start_is s base =
    ap (λ b. length (1 ∷ string s.id ++ string s.source ++ string s.argument ++ listed route s.routes ++ listed pair s.env ++ string b ++ eight s.reading)) base
    ∙ added s.id s.source s.argument (listed route s.routes) (listed pair s.env) s.reading
  where
    added : (a b c r e : List ℕ) (n : ℕ) → length (1 ∷ string a ++ string b ++ string c ++ r ++ e ++ four 0 ++ eight n) ≡ 25 + length a + length b + length c + length r + length e
    added a b c r e n =
        let whole = seven (string a) (string b) (string c) r e (four 0) (eight n) in omega (arith, whole, string_is a, string_is b, string_is c, eight_is n)

-- what is known of a start of a line
pub record IsPlainStart (s : Start) : Type 0 where
  pub rules : s.rules ≡ 1
  pub id : IsUtf8 s.id
  pub short : length s.id ≤ 64
  pub source : length s.source ≤ 131072
  pub argument : IsShortArgument s.argument
  pub routes : Each IsRoute s.routes
  pub few : length (listed route s.routes) ≤ 1310924
  pub env : Each IsPair s.env
  pub few_pairs : length (listed pair s.env) ≤ 1310864
  pub base : s.base ≡ []
  pub reading : s.reading < 2 ^ 64

pub plain_fits : (s : Start) → IsPlainStart s → length (record_bytes (Started s)) ≤ 16777215
plain_fits s p =
    let whole = start_is s p.base in omega (arith, whole, p.argument.1, p.short, p.source, p.few, p.few_pairs)

pub plain_spelled : (s : Start) → IsPlainStart s → HasSpelling (Started s)
plain_spelled s p = (
  record {
    id = (let short = p.short in omega (arith, short), p.id);
    source = let short = p.source in omega (arith, short);
    argument = let short = p.argument.1 in (omega (arith, short), p.argument.0);
    routes = p.routes;
    env = p.env;
    base = subst IsText (sym p.base) (omega arith, IsUtf8-from_ascii [] (λ i. omega arith));
    reading = p.reading;
  },
  p.rules,
)
