-- Laws of the loop over the calls: what stands between two calls, one call more, and the end.
use Rattle.std.proofs.Common.{Some, None}
use Prim.Native.Nat.{ℕ, suc, ◌+◌, ◌*◌, ◌-◌, ◌/◌, ◌≤◌, ◌<◌}
use mathlib.Core.Path.{◌≡◌, refl, sym, ◌∙◌, ap, subst}
use mathlib.Core.Bool.{false}
use mathlib.Core.List.{List, [], ◌∷◌, ◌++◌, map, append_assoc, append-nil}
use native.Mathlib.Omega.{arith}
use lib.ListN.{length, take, drop, length-append, length-drop}
use lib.Seq.{take_at, drop_at, drop-drop}
use lib.Dec.{eqb}
use Rattle.lists.specs.Lists.{pick}
use Rattle.outcomes.specs.Outcome.{refused, answered}
use Rattle.search.specs.Search.{stopped, none_within, Searched}
use Rattle.next.specs.Next.{no_more, Followed}
use Rattle.sequence.specs.Calls.{Call, Answer, of_search, of_next, Result, finder_at, received}
use Rattle.sequence.proofs.Sequence.{condition_3}
use Rattle.script_commands.specs.Commands.{command_length, overb, size_of}
use Rattle.script.specs.Asked.{call_of}
use Rattle.script_call.specs.Log.{report_of, report_row, call_row, Made}
use Rattle.script_commands.proofs.CommandLaws.{size_over, size_goes_on, command_there, rest_of}
use Rattle.script_player.specs.Played.{keep_copy, calls_of, played, results}
use Rattle.script_player.specs.Log.{rows, log_after_all, answer_after_all, work_after_all, BookPlayed}
use Rattle.script_player.proofs.PlayedLaws.{calls_over, calls_more, made_copy}

-- a call has four numbers
answer_row_length : (a : Answer) → length (report_row (report_of a)) ≡ 4
answer_row_length (of_search (refused n)) = refl
answer_row_length (of_search (answered (stopped r))) = refl
answer_row_length (of_search (answered (Searched.found l k rounds))) = refl
answer_row_length (of_search (answered (none_within rounds))) = refl
answer_row_length (of_next (refused n)) = refl
answer_row_length (of_next (answered (Followed.found l k))) = refl
answer_row_length (of_next (answered no_more)) = refl

module _ (g : Call → Result) where
  -- each call has a result
  map-length : (cs : List Call) → length (map g cs) ≡ length cs
  map-length [] = refl
  map-length (c ∷ cs) = ap (λ (n : ℕ). suc n) (map-length cs)

  -- the numbers of some calls
  rows-length : (cs : List Call) → length (rows (map g cs)) ≡ 4 * length cs
  rows-length [] = refl
  rows-length (c ∷ cs) =
      length-append (call_row (g c)) (rows (map g cs)) ∙ omega (arith, answer_row_length (g c).answer, rows-length cs)

  -- one call more: the numbers are after those before
  rows_more : (cs : List Call) (c : Call) → rows (map g (cs ++ c ∷ [])) ≡ rows (map g cs) ++ call_row (g c)
  rows_more [] c = append-nil (call_row (g c))
  rows_more (d ∷ cs) c =
      ap (λ (x : List ℕ). call_row (g d) ++ x) (rows_more cs c) ∙ sym (append_assoc (call_row (g d)) (rows (map g cs)) (call_row (g c)))

  -- and the tables are as it left them
  table_more : (a : List ℕ) (cs : List Call) (c : Call) → answer_after_all a (map g (cs ++ c ∷ [])) ≡ (g c).table
  table_more a [] c = refl
  table_more a (d ∷ cs) c = table_more (g d).table cs c

  work_more : (w : List ℕ) (cs : List Call) (c : Call) → work_after_all w (map g (cs ++ c ∷ [])) ≡ (g c).work
  work_more w [] c = refl
  work_more w (d ∷ cs) c = work_more (g d).work cs c

-- the log with one row more
log_more : (front line log₀ log log' : List ℕ) (n : ℕ) → length front ≡ 4 * n → log ≡ front ++ drop (4 * n) log₀
    → log' ≡ take (4 * n) log ++ line ++ drop (4 * n + 4) log → log' ≡ (front ++ line) ++ drop (4 * (n + 1)) log₀
log_more front line log₀ log log' n long before after =
    let first : take (4 * n) log ≡ front = ap (λ (l : List ℕ). take (4 * n) l) before ∙ take_at front (drop (4 * n) log₀) (4 * n) long in
    let cut : drop (4 * n) log ≡ drop (4 * n) log₀ = ap (λ (l : List ℕ). drop (4 * n) l) before ∙ drop_at front (drop (4 * n) log₀) (4 * n) long in
    let next : 4 * n + 4 ≡ 4 * (n + 1) = omega arith in
    let later : drop (4 * n + 4) log ≡ drop (4 * (n + 1)) log₀
    = sym (drop-drop 4 (4 * n) log) ∙ ap (λ (l : List ℕ). drop 4 l) cut ∙ drop-drop 4 (4 * n) log₀ ∙ ap (λ (k : ℕ). drop k log₀) next in
    after
    ∙ ap (λ (x : List ℕ). x ++ line ++ drop (4 * n + 4) log) first
    ∙ ap (λ (x : List ℕ). front ++ line ++ x) later

-- What stands between two calls. Some calls are past; what is left of the script, with the copy and the tables as they
-- are, asks for the others; the log holds the numbers of those past, and the tables are as the last of them left them.
pub record Playing (f script a₀ w₀ log₀ : List ℕ) (room : ℕ) (a w log copy : List ℕ) (held at calls : ℕ) : Type 0 where
  pub past : List Call
  pub count : length past ≡ calls
  pub others : calls_of f room script [] a₀ w₀ ≡ past ++ calls_of f (room - calls) (drop at script) (take held copy) a w
  pub numbers : log ≡ rows (map (finder_at f) past) ++ drop (4 * calls) log₀
  pub answer : a ≡ answer_after_all a₀ (map (finder_at f) past)
  pub work : w ≡ work_after_all w₀ (map (finder_at f) past)
  pub answer_length : length a ≡ length a₀
  pub work_length : length w ≡ length w₀
  pub log_length : length log ≡ length log₀
  pub copy_length : length copy ≡ 4097
  pub held_in : held ≤ 4097
  pub at_in : at ≤ length script
  pub calls_in : calls ≤ room

-- before the first call
pub playing_first : (f script a w log : List ℕ) (room : ℕ) (copy : List ℕ) → length copy ≡ 4097 → Playing f script a w log room a w log copy 0 0 0
playing_first f script a w log room copy long =
    let all : room ≡ room - 0 = omega arith in
    record {
      past = [];
      count = refl;
      others = ap (λ (n : ℕ). calls_of f n script [] a w) all;
      numbers = refl;
      answer = refl;
      work = refl;
      answer_length = refl;
      work_length = refl;
      log_length = refl;
      copy_length = long;
      held_in = omega arith;
      at_in = omega arith;
      calls_in = omega arith;
    }

-- what the function promises
abbrev pub Ended : (f script a₀ w₀ log₀ a w log : List ℕ) (calls : ℕ) → Type 0
Ended f script a₀ w₀ log₀ a w log calls =
    let rs : List Result = results f script a₀ w₀ log₀ in
    (calls ≡ length (played f script a₀ w₀ log₀)) ×
    ((log ≡ log_after_all log₀ rs) ×
    ((a ≡ answer_after_all a₀ rs) × ((w ≡ work_after_all w₀ rs) × BookPlayed f script a₀ w₀ log₀ log)))

module _ {f script a₀ w₀ log₀ a w log copy : List ℕ} {held at calls : ℕ}
    (p : Playing f script a₀ w₀ log₀ (length log₀ / 4) a w log copy held at calls) where
  -- the calls past are all, if no other is asked for
  playing_ended : calls_of f (length log₀ / 4 - calls) (drop at script) (take held copy) a w ≡ []
      → Ended f script a₀ w₀ log₀ a w log calls
  playing_ended none_left =
      let cs : List Call = played f script a₀ w₀ log₀ in
      let all : p.past ≡ cs = sym (p.others ∙ ap (λ (l : List Call). p.past ++ l) none_left ∙ append-nil p.past) in
      let as_many : calls ≡ length (map (finder_at f) p.past) = sym p.count ∙ sym (map-length (finder_at f) p.past) in
      let numbers : log ≡ log_after_all log₀ (map (finder_at f) cs)
      = p.numbers
      ∙ ap (λ (n : ℕ). rows (map (finder_at f) p.past) ++ drop (4 * n) log₀) as_many
      ∙ ap (λ (l : List Call). log_after_all log₀ (map (finder_at f) l)) all in (
        sym p.count ∙ ap length all,
        (
          numbers,
          (
            p.answer ∙ ap (λ (l : List Call). answer_after_all a₀ (map (finder_at f) l)) all,
            (
              p.work ∙ ap (λ (l : List Call). work_after_all w₀ (map (finder_at f) l)) all,
              λ accepted t proper. numbers ∙ ap (λ (rs : List Result). log_after_all log₀ rs) (condition_3 f accepted t cs proper).results,
            ),
          ),
        ),
      )

  -- the log has no room for another call
  pub playing_full : length log₀ / 4 ≤ calls → Ended f script a₀ w₀ log₀ a w log calls
  playing_full full =
      let e : length log₀ / 4 - calls ≡ 0 = omega arith in
      playing_ended (ap (λ (n : ℕ). calls_of f n (drop at script) (take held copy) a w) e)

  -- the part of the script that is lent is what is left of it
  part_is : take (length script - at) (drop at script) ≡ drop at script
  part_is = rest_of script at p.at_in

  -- the script is over
  pub playing_over : size_of (take (length script - at) (drop at script)) ≡ None → Ended f script a₀ w₀ log₀ a w log calls
  playing_over e =
      playing_ended (calls_over f (drop at script) (take held copy) a w (length log₀ / 4 - calls) (size_over (drop at script) (sym (ap size_of part_is) ∙ e)))

  module _ {size : ℕ} (at_size : size_of (take (length script - at) (drop at script)) ≡ Some size) where
    goes_on : (overb (drop at script) ≡ false) × (size ≡ command_length (drop at script))
    goes_on = size_goes_on (drop at script) size (sym (ap size_of part_is) ∙ at_size)

    -- the place after the command
    next_place : at + size ≤ length script
    next_place =
        let there : command_length (drop at script) ≤ length (drop at script) = command_there (drop at script) goes_on.0 in
        omega (arith, length-drop at script, goes_on.1, p.at_in)

    module _ (less : calls < length log₀ / 4) {a' w' log' : List ℕ} {got : ℕ}
        (m : Made f (call_of (take (length script - at) (drop at script)) (take held copy) a w) (4 * calls) log a' w' log' got) where
      -- the call, told by what is left of the script
      call_made : Made f (call_of (drop at script) (take held copy) a w) (4 * calls) log a' w' log' got
      call_made =
          subst (λ (s : List ℕ). Made f (call_of s (take held copy) a w) (4 * calls) log a' w' log' got) part_is m

      -- one call more
      pub playing_next : {copy' : List ℕ} {held' : ℕ} → length a' ≡ length a → length w' ≡ length w → length log' ≡ length log
          → length copy' ≡ length copy → held' ≤ length copy
          → take held' copy' ≡ pick (eqb got 0) (take held copy) (take got a')
          → Playing f script a₀ w₀ log₀ (length log₀ / 4) a' w' log' copy' held' (at + size) (calls + 1)
      playing_next {copy'} {held'} same-a same_w same_log same_copy held_in kept =
          let s : List ℕ = drop at script in
          let c : Call = call_of s (take held copy) a w in
          let r : Result = finder_at f c in
          let left : length log₀ / 4 - calls ≡ suc (length log₀ / 4 - (calls + 1)) = omega arith in
          let n : ℕ = length log₀ / 4 - (calls + 1) in
          let more : calls_of f (length log₀ / 4 - calls) s (take held copy) a w
          ≡ c ∷ calls_of f n (drop (command_length s) s) (keep_copy (received r) (take held copy)) r.table r.work
          = ap (λ (k : ℕ). calls_of f k s (take held copy) a w) left ∙ calls_more f s (take held copy) a w n goes_on.0 in
          let size-of : command_length s ≡ size = sym goes_on.1 in
          let rest : drop (command_length s) s ≡ drop (at + size) script
          = ap (λ (k : ℕ). drop k s) size-of ∙ drop-drop size at script in
          let copy_is : keep_copy (received r) (take held copy) ≡ take held' copy' = sym (kept ∙ made_copy (take held copy) call_made) in
          let told : calls_of f n (drop (command_length s) s) (keep_copy (received r) (take held copy)) r.table r.work
          ≡ calls_of f n (drop (at + size) script) (take held' copy') a' w'
          = ap (λ (x : List ℕ). calls_of f n x (keep_copy (received r) (take held copy)) r.table r.work) rest
          ∙ ap (λ (x : List ℕ). calls_of f n (drop (at + size) script) x r.table r.work) copy_is
          ∙ ap (λ (x : List ℕ). calls_of f n (drop (at + size) script) (take held' copy') x r.work) (sym call_made.answer)
          ∙ ap (λ (x : List ℕ). calls_of f n (drop (at + size) script) (take held' copy') a' x) (sym call_made.work) in
          record {
            past = p.past ++ c ∷ [];
            count = length-append p.past (c ∷ []) ∙ omega (arith, p.count);
            others =
                p.others
                ∙ ap (λ (l : List Call). p.past ++ l) (more ∙ ap (λ (l : List Call). c ∷ l) told)
                ∙ sym (append_assoc p.past (c ∷ []) (calls_of f n (drop (at + size) script) (take held' copy') a' w'));
            numbers =
                log_more (rows (map (finder_at f) p.past)) (call_row r) log₀ log log' calls
                (rows-length (finder_at f) p.past ∙ ap (λ (k : ℕ). 4 * k) p.count) p.numbers call_made.log_row
                ∙ ap (λ (x : List ℕ). x ++ drop (4 * (calls + 1)) log₀) (sym (rows_more (finder_at f) p.past c));
            answer = call_made.answer ∙ sym (table_more (finder_at f) a₀ p.past c);
            work = call_made.work ∙ sym (work_more (finder_at f) w₀ p.past c);
            answer_length = same-a ∙ p.answer_length;
            work_length = same_w ∙ p.work_length;
            log_length = same_log ∙ p.log_length;
            copy_length = same_copy ∙ p.copy_length;
            held_in = omega (arith, p.copy_length);
            at_in = next_place;
            calls_in = omega arith;
          }
