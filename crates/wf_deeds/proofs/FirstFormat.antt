-- Over starts and turns of the first format, a history is one of the first format.
use Rattle.std.specs.Prelude.{◌≡◌, ◌&&◌, ℕ, suc, Bool, true, false, IsTrue, List, [], ◌∷◌, map, Option, Some, None}
use Rattle.std.specs.List.{list_all}
use Rattle.std.proofs.Common.{refl, sym, ◌∙◌, ap, subst}
use Rattle.std.proofs.lemmas.Bool.{and_parts}
use Rattle.wf_ast.specs.Tree.{Program}
use Rattle.wf_events.specs.Reading.{meaning}
use Rattle.wf_events.specs.Records.{Record, Started, Turned, Kept, Upgrade, Packed, StartedTwo}
use Rattle.wf_history.specs.Kinds.{start_of_record}
use Rattle.wf_model.specs.Config.{After, Config}
use Rattle.wf_model.specs.Run.{Run, initial, run_on}
use Rattle.wf_deeds.specs.FirstFormat.{FirstHistory, FirstFormatStays, is_of_first, turns_are_numbered}
use Rattle.wf_deeds.specs.History.{AreKept, History, are_numbered, events, in_format, in_order, is_numbered, turns_of}
use Rattle.wf_deeds.specs.Language.{Language}
use Rattle.wf_value.specs.Events.{Start, Turn}

-- ## Turns alone
turns_again : (ts : List Turn) → turns_of (map Turned ts) ≡ ts
turns_again [] = refl
turns_again (t ∷ ts) = ap (λ us. t ∷ us) (turns_again ts)

in_first_format : (ts : List Turn) → IsTrue (in_format false (map Turned ts))
in_first_format [] = refl
in_first_format (t ∷ ts) = in_first_format ts

same_numbers : (n : ℕ) (ts : List Turn) → are_numbered n (map Turned ts) ≡ turns_are_numbered n ts
same_numbers n [] = refl
same_numbers n (t ∷ ts) = ap (λ b. is_numbered n t && b) (same_numbers (suc n) ts)

nothing_kept : (L : Language) (p : Program) (a : After) (before : Option Turn) (ts : List Turn) → AreKept L p a before (map Turned ts)
nothing_kept L p a before [] = tt
nothing_kept L p a before (t ∷ ts) = nothing_kept L p (run_on p a t.events) (Some t) ts

-- ## Such records
only_turns : (rs : List Record) → IsTrue (list_all is_of_first (map Some rs)) → IsTrue (in_format false rs) → rs ≡ map Turned (turns_of rs)
only_turns [] first formats = refl
only_turns (Turned t ∷ rs) first formats = ap (λ us. Turned t ∷ us) (only_turns rs first formats)
only_turns (Started s ∷ rs) first formats = absurd (cc formats)
only_turns (StartedTwo s ∷ rs) first formats = absurd (cc first)
only_turns (Packed t ∷ rs) first formats = absurd (cc first)
only_turns (Kept k ∷ rs) first formats = absurd (cc first)
only_turns (Upgrade ∷ rs) first formats = absurd (cc first)

-- a first record that is of the first format
record FirstStart (r : Record) (s : Start) (two : Bool) : Type 0 where
  pub is : r ≡ Started s
  pub format : two ≡ false

first_start : (r : Record) (s : Start) (two : Bool) → IsTrue (is_of_first (Some r)) → start_of_record r ≡ Some (s, two) → FirstStart r s two
first_start (Started t) s two first is =
    let same : ◌≡◌ {A = Start × Bool} (t, false) (s, two) = cc is in
    record { is = ap (λ (x : Start × Bool). Started x.0) same; format = ap (λ (x : Start × Bool). x.1) (sym same) }
first_start (Turned t) s two first is = absurd (cc is)
first_start (StartedTwo t) s two first is = absurd (cc first)
first_start (Packed t) s two first is = absurd (cc first)
first_start (Kept k) s two first is = absurd (cc first)
first_start Upgrade s two first is = absurd (cc first)

-- ## Both ways
of_both : (L : Language) (J : List (List ℕ)) (c : Config) → FirstHistory L J c → History L J c
of_both L J c h = record {
  first = Started h.start;
  rest = map Turned h.turns;
  meanings = h.meanings;
  start = h.start;
  two = false;
  starts = refl;
  rules = refl;
  program = h.program;
  accepted = h.accepted;
  formats = in_first_format h.turns;
  order = subst (λ ts. IsTrue (in_order 0 0 ts)) (sym (turns_again h.turns)) h.order;
  numbers = same_numbers 1 h.turns ∙ h.numbers;
  one_run = subst (λ ts. Run h.program h.start (events ts) c) (sym (turns_again h.turns)) h.one_run;
  kept = nothing_kept L h.program (initial h.program h.start) None h.turns;
}

of_first : (L : Language) (J : List (List ℕ)) (c : Config) → IsTrue (list_all is_of_first (map meaning J)) → History L J c → FirstHistory L J c
of_first L J c all h =
    let both : IsTrue (list_all is_of_first (map Some (h.first ∷ h.rest))) = subst (λ os. IsTrue (list_all is_of_first os)) h.meanings all in
    let parts = and_parts (is_of_first (Some h.first)) (list_all is_of_first (map Some h.rest)) both in
    let begins = first_start h.first h.start h.two parts.0 h.starts in
    let turns : h.rest ≡ map Turned (turns_of h.rest) = only_turns h.rest parts.1 (subst (λ b. IsTrue (in_format b h.rest)) begins.format h.formats) in
    record {
      start = h.start;
      turns = turns_of h.rest;
      meanings = h.meanings ∙ ap (λ r. map Some (r ∷ h.rest)) begins.is ∙ ap (λ rs. map Some (Started h.start ∷ rs)) turns;
      program = h.program;
      accepted = h.accepted;
      order = h.order;
      numbers = sym (same_numbers 1 (turns_of h.rest)) ∙ ap (are_numbered 1) (sym turns) ∙ h.numbers;
      one_run = h.one_run;
    }

pub first_format_stays : FirstFormatStays
first_format_stays L J c all = (of_both L J c, of_first L J c all)
