-- The room is always enough, so reply 10 is never given in it (`never_ten`), and one line replies to a file (`one_line`); a line's length
-- counts its bytes (`shown-counts`). For the proof of `reply_to`; what replies to a file: specs/Replying.antt.
use mathlib.Core.Bool.{true}
use mathlib.Core.List.{List, ◌++◌}
use mathlib.Core.Logic.{⊎_elim}
use mathlib.Core.Path.{◌≡◌, refl, ap, sym, ◌∙◌}
use Prim.Native.Nat.{ℕ, ◌-◌, ◌≤◌}
use native.Mathlib.Omega.{arith}
use borrow.Author.Tests.{le-leb}
use lib.ListN.{length, replicate, length-append}
use Rattle.places.specs.Limits.{bundle_most}
use Rattle.card.specs.Card.{file_p}
use Rattle.card.specs.Content.{content_p}
use Rattle.card.specs.Parts.{content_of}
use Rattle.card.specs.declared.Card.{Card}
use Rattle.card.proofs.Sections.{card_read}
use Rattle.card.proofs.Values.{content_got, content_stops}
use Rattle.card.proofs.Standing.{bundle-few}
use Rattle.card.proofs.Stops.{file_stops}
use Rattle.fields.specs.Fields.{Parsed, got, stop}
use Rattle.io.specs.Counts.{IsPrefixLen}
use Rattle.io.proofs.Counting.{prefix_len_of_le}
use Rattle.order.specs.Paths.{Places}
use Rattle.order.specs.Slots.{slots_of}
use Rattle.order.proofs.Formula.{slots_most}
use Rattle.reply.specs.declared.Answer.{Answer}
use Rattle.reply.specs.declared.Reply.TheVariants.{Error}
use Rattle.reply.specs.Answer.{Searched}
use Rattle.reply.specs.Numbers.{saying}
use Rattle.reply.specs.Room.{has_room}
use Rattle.reply.specs.Settles.{Reach, Outcome, accepted, refused, exhausted}
use Rattle.reply.proofs.Faults.{room-few, answered-roomy}
use Rattle.reply.proofs.Says.{tells_reply, stops_reply}
use Rattle.search.specs.Search.{Search}
use Rattle.search.proofs.One.{search_one}
use Rattle.report.specs.Lines.{line_most, line_of, line_shown}
use Rattle.report.specs.Replying.{room_most, Replies}
use Rattle.report.specs.declared.line.Line.{Line}

-- no bundle asks for more
enough : (n : ℕ) → n ≤ bundle_most → has_room n room_most ≡ true
enough n h = room-few n room_most h ∙ le-leb (slots_of n) (slots_of bundle_most) (slots_most n h)

module _ (a : Answer) (ten : a.reply ≡ Error 10) where
  searched_other : {g : Places} {w : Reach} {k : ℕ} {before after : List ℕ} → Searched g w k before after a → ⊥
  searched_other x = by_outcome x.outcome (tells_reply x.tells)
    where
      by_outcome : (o : Outcome) → a.reply ≡ saying o → ⊥
      by_outcome (accepted p r s) e = let z : ◌≡◌ {A = ℕ} 0 1 = cc in omega arith
      by_outcome (refused s) e = let z : ◌≡◌ {A = ℕ} 0 1 = cc in omega arith
      by_outcome (exhausted s) e = let z : ◌≡◌ {A = ℕ} 0 1 = cc in omega arith

  other : {e : ℕ} → a.reply ≡ Error e → e ≡ 10
  other h = let z : Error _ ≡ Error 10 = sym h ∙ ten in cc

  pub never_ten : (s before after : List ℕ) → length before ≡ room_most → Search (content_p s) before after a → ⊥
  never_ten s before after long x = by_file (file_p s) refl
    where
      by_file : (y : Parsed Card) → file_p s ≡ y → ⊥
      by_file (got c e) k =
          let few : length (content_of c s).bundle ≤ bundle_most = bundle-few s c e (card_read s c e k) in
          ⊎_elim (λ z. omega (arith, other (stops_reply z))) searched_other
          (answered-roomy (length (content_of c s).bundle) (length before) (content_of c s) _ before after a (rw long (enough (length (content_of c s).bundle) few)) (rw (content_got s c e k) at x))
      by_file (stop r) k = let q = (file_stops s).at r k in omega (arith, other (stops_reply (rw (content_stops s r k) at x)))

-- no second line replies to a file
pub one_line : (s : List ℕ) (l m : Line) → Replies (content_p s) l → Replies (content_p s) m → l ≡ m
one_line s l m x y =
    let same = search_one s (replicate room_most 0) x.after y.after x.answer y.answer x.searched y.searched in
    x.written ∙ ap (λ (a : Answer). line_shown (line_of a)) same.answer ∙ sym y.written

-- a line's length counts its bytes
pub shown-counts : (l : List ℕ) (x : Line) → x ≡ line_shown l → IsPrefixLen x.length x.bytes
unfolding line_shown
shown-counts l x e =
    let d : List ℕ = l ++ replicate (line_most - length l) 0 in
    let h : length l ≤ length d = simp length-append (omega arith) in
    rw e (prefix_len_of_le (length l) d h)
