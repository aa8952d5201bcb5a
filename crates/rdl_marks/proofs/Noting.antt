-- What the changes of pieces make of what is told.
use Rattle.std.proofs.Common.{◌≡◌, ℕ, ◌+◌, ◌-◌, ◌<◌, length, List, [], ◌∷◌, ◌++◌, map, reverse, take, Some, refl, ap, sym, ◌∙◌, arith, subst, append_assoc, length-append}
use Rattle.std.specs.Prelude.{slice_get, slice_set, get_or, insert, remove, IfSome}
use Rattle.std.specs.Vec.{vec_len, with_item}
use Rattle.std.proofs.lemmas.Option.{slice_get_read}
use Rattle.rdl_tree.specs.declared.description.Item.{Item}
use Rattle.rdl_tree.specs.declared.patch.Patch.TheVariants.{Insert, Shift}
use Rattle.rdl_marks.specs.View.{Trace, new_item, piece_traces, pieces_traces, in_order, IsCounted, gone_trace, gone_item, told, Told}
use Rattle.rdl_marks.specs.Cut.{traces_before, traces_behind, traces_in, IsSingle, the_trace, Reaches}
use Rattle.rdl_marks.specs.Noted.{moved, reach, put_in, take_out, gone_as, told_at, taken_out_as, moved_to, at_item, noted_here}
use Rattle.rdl_marks.specs.declared.marks.Piece.{Piece}
use Rattle.rdl_marks.specs.declared.marks.Pieces.{Pieces}
use Rattle.rdl_marks.specs.declared.marks.Gone.{Gone}
use Rattle.rdl_marks.proofs.Cuts.{get_at, put_at_end, remove_at, insert_at, pieces_traces-append, single_traces, last_single, set_single}

-- ---- What is told by the items one by one.

abbrev told_by : List Trace → ℕ → List Gone → Told
told_by es b gs = record { traces = es; behind = b; gone = map gone_trace gs; items = map gone_item gs }

told_in : (ps : Pieces) (b : ℕ) (gs : List Gone) → told (in_order ps) b gs ≡ told_by (traces_in ps) b gs
told_in ps b gs = ap (λ es. told_by es b gs) (pieces_traces-append ps.front.items (reverse ps.back.items))

-- so many items at least are
reached : (old : Pieces) (new : List Trace) (b c n : ℕ) (gs : List Gone) → Reaches (traces_in old) b new c n → told_by new c gs ≡ reach n (told (in_order old) b gs)
reached old new b c n gs r = (λ i. record (told_by new c gs) { traces = r.traces i; behind = r.behind_new i }) ∙ ap (reach n) (sym (told_in old b gs))

-- ---- Where the gap is.

-- it is before the item of a number
pub record IsAt (old : Pieces) (b : ℕ) (mid : Pieces) (c n : ℕ) : Type 0 where
  pub reaches : Reaches (traces_in old) b (traces_in mid) c n
  pub begins : length (traces_before mid) ≡ n

-- it is in the place of the item of a number, which was taken out
pub record IsTaken (old : Pieces) (b : ℕ) (mid : Pieces) (c n : ℕ) (e : Trace) : Type 0 where
  pub reaches : Reaches (traces_in old) b (traces_before mid ++ e ∷ traces_behind mid.back.items) c (n + 1)
  pub begins : length (traces_before mid) ≡ n

pub is_taken : (old : Pieces) (b : ℕ) (mid : Pieces) (c n : ℕ) (e : Trace) → Reaches (traces_in old) b (traces_before mid ++ e ∷ traces_behind mid.back.items) c (n + 1) → IsCounted mid → mid.before ≡ n → IsTaken old b mid c n e
is_taken old b mid c n e r k h = record { reaches = r; begins = sym k ∙ h }

pub is_at : (old : Pieces) (b : ℕ) (mid : Pieces) (c n : ℕ) → Reaches (traces_in old) b (traces_in mid) c n → IsCounted mid → mid.before ≡ n → IsAt old b mid c n
is_at old b mid c n r k h = record { reaches = r; begins = sym k ∙ h }

-- this item was put before it
pub record IsPut (mid new : Pieces) (e : Trace) : Type 0 where
  pub before : traces_before new ≡ traces_before mid ++ e ∷ []
  pub behind : new.back ≡ mid.back

pub single_put : (mid new : Pieces) (p : Piece) → IsSingle p → traces_before new ≡ traces_before mid ++ piece_traces p → new.back ≡ mid.back → IsPut mid new (the_trace p)
single_put mid new p s e h = record { before = e ∙ ap (λ l. traces_before mid ++ l) (single_traces p s); behind = h }

put_between : (mid new : Pieces) (e : Trace) → IsPut mid new e → traces_in new ≡ traces_before mid ++ e ∷ traces_behind mid.back.items
put_between mid new e p =
    ap (λ l. l ++ traces_behind new.back.items) p.before ∙ append_assoc (traces_before mid) (e ∷ []) (traces_behind new.back.items)
    ∙ ap (λ v. traces_before mid ++ e ∷ traces_behind v.items) p.behind

-- ---- Lists, at the gap.

get_there : (before behind : List Trace) (n : ℕ) (e : Trace) → length before ≡ n → slice_get (before ++ e ∷ behind) n ≡ Some e
get_there before behind n e h = ap (slice_get (before ++ e ∷ behind)) (sym h) ∙ get_at before e behind

insert_there : (before behind : List Trace) (n : ℕ) (e : Trace) → length before ≡ n → before ++ e ∷ behind ≡ insert (before ++ behind) n e
insert_there before behind n e h = sym (insert_at before e behind) ∙ ap (λ m. insert (before ++ behind) m e) h

remove_there : (before behind : List Trace) (n : ℕ) (e : Trace) → length before ≡ n → before ++ behind ≡ remove (before ++ e ∷ behind) n
remove_there before behind n e h = sym (remove_at before e behind) ∙ ap (λ m. remove (before ++ e ∷ behind) m) h

set_there : (before behind : List Trace) (n : ℕ) (d e : Trace) → length before ≡ n → before ++ e ∷ behind ≡ slice_set (before ++ d ∷ behind) n e
set_there before behind n d e h = sym (put_at_end before d e behind) ∙ ap (λ m. slice_set (before ++ d ∷ behind) m e) h

-- ---- Patches.

-- an item was put in where the gap was
put_told : (old mid new : Pieces) (b c n : ℕ) (e : Trace) → IsAt old b mid c n → IsPut mid new e → (gs : List Gone) → told (in_order new) c gs ≡ put_in n e (reach n (told (in_order old) b gs))
put_told old mid new b c n e a p gs =
    let before = traces_before mid in
    let behind = traces_behind mid.back.items in
    told_in new c gs
    ∙ ap (λ l. told_by l c gs) (put_between mid new e p ∙ insert_there before behind n e a.begins)
    ∙ ap (put_in n e) (reached old (traces_in mid) b c n gs a.reaches)

pub inserted : (old mid new : Pieces) (b c n : ℕ) → IsAt old b mid c n → IsPut mid new new_item → (gs : List Gone) → told (in_order new) c gs ≡ put_in n new_item (reach n (told (in_order old) b gs))
inserted old mid new b c n a p gs = put_told old mid new b c n new_item a p gs

-- an item was taken out
without : (mid : Pieces) (c n : ℕ) (e : Trace) (gs : List Gone) → length (traces_before mid) ≡ n → told (in_order mid) c gs ≡ take_out n (told_by (traces_before mid ++ e ∷ traces_behind mid.back.items) c gs)
without mid c n e gs h = told_in mid c gs ∙ ap (λ l. told_by l c gs) (remove_there (traces_before mid) (traces_behind mid.back.items) n e h)

pub deleted : (old mid : Pieces) (b c n : ℕ) (gs hs : List Gone) (p : Piece) (x : Item) → IsTaken old b mid c n (the_trace p)
    → ((qs : List Piece) (d : ℕ) → told qs d hs ≡ gone_as x (the_trace p) (told qs d gs)) → told (in_order mid) c hs ≡ noted_here (Insert [] x) n (told (in_order old) b gs)
deleted old mid b c n gs hs p x t g =
    let e = the_trace p in
    let all = traces_before mid ++ e ∷ traces_behind mid.back.items in
    g (in_order mid) c
    ∙ ap (gone_as x e) (without mid c n e gs t.begins)
    ∙ ap (λ o. taken_out_as n x o (told_by all c gs)) (sym (get_there (traces_before mid) (traces_behind mid.back.items) n e t.begins))
    ∙ ap (λ (l : Told). taken_out_as n x (slice_get l.traces n) l) (reached old all b c (n + 1) gs t.reaches)

pub shifted : (old mid last new : Pieces) (b c d from to : ℕ) (p q : Piece) → IsTaken old b mid c from (the_trace p) → the_trace q ≡ moved (the_trace p) → IsAt mid c last d to → IsPut last new (the_trace q)
    → (gs : List Gone) → told (in_order new) d gs ≡ noted_here (Shift [] from) to (told (in_order old) b gs)
shifted old mid last new b c d from to p q t m a u gs =
    let e = the_trace p in
    let all = traces_before mid ++ e ∷ traces_behind mid.back.items in
    put_told mid last new c d to (the_trace q) a u gs
    ∙ ap (λ f. put_in to f (reach to (told (in_order mid) c gs))) m
    ∙ ap (λ (l : Told). put_in to (moved e) (reach to l)) (without mid c from e gs t.begins)
    ∙ ap (λ o. moved_to from to o (told_by all c gs)) (sym (get_there (traces_before mid) (traces_behind mid.back.items) from e t.begins))
    ∙ ap (λ (l : Told). moved_to from to (slice_get l.traces from) l) (reached old all b c (from + 1) gs t.reaches)

-- ---- A piece that is changed where it stands.

-- the item of a number is the last one before the gap, and a piece by itself
pub record IsHeld (old : Pieces) (b : ℕ) (mid : Pieces) (c n k : ℕ) (p : Piece) : Type 0 where
  pub reaches : Reaches (traces_in old) b (traces_in mid) c (n + 1)
  pub begins : length (traces_before mid) ≡ n + 1
  pub place : slice_get mid.front.items k ≡ Some p
  pub last : k + 1 ≡ length mid.front.items
  pub alone : IsSingle p

pub is_held : (old : Pieces) (b : ℕ) (mid : Pieces) (c n k : ℕ) (p : Piece) → Reaches (traces_in old) b (traces_in mid) c (n + 1) → IsCounted mid → mid.before ≡ n + 1 → 0 < length mid.front.items
    → IfSome (slice_get mid.front.items (length mid.front.items - 1)) IsSingle → k ≡ vec_len mid.front - 1 → p ≡ get_or mid.front.items k p → IsHeld old b mid c n k p
is_held old b mid c n k p r i h w a l g =
    let size : k ≡ length mid.front.items - 1 = omega (arith, l) in
    let within : k < length mid.front.items = omega (arith, w, size) in
    let place = slice_get_read mid.front.items (length mid.front.items) k p refl within g in record {
      reaches = r;
      begins = sym i ∙ h;
      place = place;
      last = omega (arith, w, size);
      alone = subst (λ o. IfSome o IsSingle) (ap (slice_get mid.front.items) (sym size) ∙ place) a;
    }

-- with another piece in its place
abbrev pub changed : Pieces → ℕ → Piece → Pieces
changed mid k q = record mid { front = with_item mid.front k q }

pub held_counted : (old : Pieces) (b : ℕ) (mid : Pieces) (c n k : ℕ) (p q : Piece) → IsHeld old b mid c n k p → IsSingle q → mid.before ≡ n + 1 → IsCounted (changed mid k q)
held_counted old b mid c n k p q t s h =
    let before = pieces_traces (take k mid.front.items) in
    omega (arith, h, t.begins, ap length (last_single mid.front.items k p t.place t.last t.alone), ap length (set_single mid.front.items k q t.last s), length-append before (the_trace p ∷ []), length-append before (the_trace q ∷ []))

pub changed_held : (f : Trace → Trace) (old : Pieces) (b : ℕ) (mid : Pieces) (c n k : ℕ) (p q : Piece) → IsHeld old b mid c n k p → IsSingle q → the_trace q ≡ f (the_trace p)
    → (gs : List Gone) → told (in_order (changed mid k q)) c gs ≡ at_item n f (told (in_order old) b gs)
changed_held f old b mid c n k p q t s m gs =
    let e = the_trace p in
    let before = pieces_traces (take k mid.front.items) in
    let behind = traces_behind mid.back.items in
    let all = before ++ e ∷ behind in
    let held = last_single mid.front.items k p t.place t.last t.alone in
    let begins : length before ≡ n = omega (arith, t.begins, ap length held, length-append before (e ∷ [])) in
    let whole : traces_in mid ≡ all = ap (λ l. l ++ behind) held ∙ append_assoc before (e ∷ []) behind in
    let after : traces_in (changed mid k q) ≡ before ++ the_trace q ∷ behind = ap (λ l. l ++ behind) (set_single mid.front.items k q t.last s) ∙ append_assoc before (the_trace q ∷ []) behind in
    told_in (changed mid k q) c gs
    ∙ ap (λ l. told_by l c gs) (after ∙ set_there before behind n e (the_trace q) begins)
    ∙ ap (λ g. told_by (slice_set all n g) c gs) m
    ∙ ap (λ o. told_at n f o (told_by all c gs)) (sym (get_there before behind n e begins))
    ∙ ap (λ (l : Told). told_at n f (slice_get l.traces n) l) (reached old all b c (n + 1) gs (subst (λ l. Reaches (traces_in old) b l c (n + 1)) whole t.reaches))
