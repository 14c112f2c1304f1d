-- Reads of a payload, a piece at a time.
use Rattle.std.proofs.Common.{◌≡◌, ℕ, ◌+◌, ◌≤◌, List, ◌++◌, length, take, drop, refl, sym, ◌∙◌, ap, arith, append_assoc, length-append, length-take-le, take_all}
use Rattle.std.proofs.Math.Seq.{take-add}
use Rattle.std.proofs.lemmas.List.{append-nil, drop-drop, drop_all, take_at, take-append-le}
use Rattle.wf_host.specs.declared.data.Deed.{Deed}
use Rattle.wf_host.specs.World.{World, Only, LeavesOnly}
use Rattle.wf_host.specs.Moments.{started, joined}
use Rattle.wf_journal.specs.Journal.{Stays}

-- the file reads as it did, and a crash leaves just this
pub record Unchanged (first now : World) : Type 0 where
  pub seen : now.seen ≡ first.seen
  pub settled : Only first.seen now.may_leave
  pub moments : LeavesOnly first now (Stays first)
  pub deeds : now.deeds ≡ first.deeds

-- before the first read
pub unread : (w : World) → Only w.seen w.may_leave → ((c : List ℕ) (d : List Deed) → w.left_since w.moment c d → w.may_leave c × (d ≡ w.deeds)) → Unchanged w w
unread w settled only = record {
  seen = refl;
  settled = settled;
  moments = started w (Stays w) only (λ c now. (settled c now, refl));
  deeds = refl;
}

-- one run of reads more
pub read_on : (first mid now : World) → Unchanged first mid → Unchanged mid now → Unchanged first now
read_on first mid now so_far more = record {
  seen = more.seen ∙ so_far.seen;
  settled = λ c is. more.settled c is ∙ so_far.seen;
  moments = joined first mid now (Stays first) (Stays mid) so_far.moments more.moments (λ c d pair. (pair.0 ∙ so_far.seen, pair.1 ∙ so_far.deeds));
  deeds = more.deeds ∙ so_far.deeds;
}

-- a piece behind a front makes a longer front
pub front_on : (file room : List ℕ) (at held count : ℕ) → room ≡ take held (drop at file) → room ++ take count (drop (at + held) file) ≡ take (held + count) (drop at file)
front_on file room at held count front =
    ap (λ (l : List ℕ). l ++ take count (drop (at + held) file)) front
    ∙ ap (λ (l : List ℕ). take held (drop at file) ++ take count l) (ap (λ (n : ℕ). drop n file) (omega arith) ∙ sym (drop-drop held at file))
    ∙ sym (take-add held count (drop at file))

-- a read that gave as many bytes as it was asked for filled its part of the room
pub filled : (file old : List ℕ) (read count : ℕ) → read ≡ count → length old ≡ count → take read file ++ drop read old ≡ take count file
filled file old read count whole long =
    ap (λ (n : ℕ). take n file ++ drop n old) whole ∙ ap (λ (l : List ℕ). take count file ++ l) (drop_all count old (omega (arith, long))) ∙ append-nil (take count file)

-- what was written behind a front, where the length leaves nothing behind that
pub written_behind : (front part behind rest : List ℕ) (n : ℕ) → length front + length part ≡ n → take n ((front ++ (part ++ behind)) ++ rest) ≡ front ++ part
written_behind front part behind rest n is =
    ap (λ (l : List ℕ). take n l)
    (append_assoc front (part ++ behind) rest ∙ ap (λ (l : List ℕ). front ++ l) (append_assoc part behind rest) ∙ sym (append_assoc front part (behind ++ rest)))
    ∙ take_at (front ++ part) (behind ++ rest) n (length-append front part ∙ is)

-- what the room holds behind a read that filled its new part
pub room_after : (before zeros items old into behind after rest : List ℕ) (held count read n : ℕ) → length before ≡ held → items ≡ take (held + count) before ++ zeros → length old ≡ count → read ≡ count
    → into ≡ take read behind ++ drop read old → count ≤ length behind → n ≡ held + count → take n ((take held items ++ (into ++ after)) ++ rest) ≡ before ++ take count behind
room_after before zeros items old into behind after rest held count read n long is long_old whole reads fits new =
    let same : take (held + count) before ≡ before = take_all (held + count) before (omega (arith, long)) in
    let front : take held items ≡ before =
    ap (λ (l : List ℕ). take held l) is ∙ take-append-le held (take (held + count) before) zeros (omega (arith, ap length same, long))
    ∙ ap (λ (l : List ℕ). take held l) same ∙ take_all held before (omega (arith, long)) in
    let part : into ≡ take count behind = reads ∙ filled behind old read count whole long_old in
    written_behind (take held items) into after rest n (omega (arith, ap length front, long, ap length part, length-take-le count behind fits, new))
    ∙ ap (λ (l : List ℕ). l ++ into) front ∙ ap (λ (l : List ℕ). before ++ l) part
