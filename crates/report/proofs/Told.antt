-- What a line shows: the outcome of the search, its path place by place (`line_tells`), or why there is no search (`line_stops`); and the
-- card-file paper's own lines. Nothing rests on it: it is for a reader of the line. The line by the code's cases: Replies.antt.
use mathlib.Core.List.{List, [], ◌∷◌, ◌++◌, map, map-append}
use mathlib.Core.Path.{◌≡◌, refl, ap, ◌∙◌}
use Prim.Native.Nat.{ℕ, ◌-◌}
use lib.ListN.{length, take, replicate, length-map}
use lib.Seq.{take_at}
use Rattle.places.specs.Limits.{bundle_most}
use Rattle.places.specs.declared.BundlePlace.{BundlePlace}
use Rattle.order.specs.Paths.{Places}
use Rattle.reply.specs.declared.Answer.{Answer}
use Rattle.reply.specs.declared.Reply.TheVariants as reply
use Rattle.reply.specs.Answer.{Tells, Stops, path_shown}
use Rattle.reply.specs.Numbers.{saying, shown, placed}
use Rattle.reply.specs.Settles.{Reach, Outcome}
use Rattle.reply.specs.Slots.{padded}
use Rattle.reply.proofs.Says.{tells_reply, tells-path, stops_reply, stops_path}
use Rattle.report.specs.Lines.{line_of, newline, number_of, places_shown, spaced, words}
use Rattle.report.specs.Text.{ascii, decimal, decimal_in}

opened : (p : List ℕ) → map number_of (map placed p) ≡ p
opened [] = refl
opened (i ∷ p) = ap (λ (l : List ℕ). i ∷ l) (opened p)

path-places : (p : List ℕ) → places_shown (path_shown p) ≡ p
unfolding places_shown path_shown padded
path-places p =
    let z : List ℕ = replicate (bundle_most - length p) 0 in
    ap (λ (l : List BundlePlace). map number_of (take (length p) l)) (map-append placed p z)
    ∙ ap (map number_of) (take_at (map placed p) (map placed z) (length p) (length-map p placed))
    ∙ opened p

pub line_tells : {g : Places} {w : Reach} {k : ℕ} {a : Answer} {o : Outcome} → Tells g w k a o → line_of a ≡ words (saying o) (shown o) ++ newline
line_tells {o = o} t = rw (tells_reply t, tells-path t, path-places (shown o))

pub line_stops : {e : ℕ} {before after : List ℕ} {a : Answer} → Stops e before after a → line_of a ≡ words (reply.Error e) [] ++ newline
line_stops t = rw (stops_reply t, stops_path t, path-places [])

-- ---- lines

accepted : line_of (record { reply = reply.Accepted (record { 0 = 0 }) 1; path = path_shown (0 ∷ []) }) ≡ ascii "ACCEPT steps 1 root 0 path 0" ++ newline
unfolding decimal decimal_in spaced words places_shown path_shown padded
accepted = refl

accepted_far :
    line_of (record { reply = reply.Accepted (record { 0 = 31 }) 120; path = path_shown (0 ∷ 15 ∷ 9 ∷ []) }) ≡ ascii "ACCEPT steps 120 root 31 path 0 15 9" ++ newline
unfolding decimal decimal_in spaced words places_shown path_shown padded
accepted_far = refl

refused : line_of (record { reply = reply.Refused 16; path = path_shown [] }) ≡ ascii "REFUSE steps 16" ++ newline
unfolding decimal decimal_in words
refused = refl

exhausted : line_of (record { reply = reply.Exhausted 0; path = path_shown [] }) ≡ ascii "EXHAUSTED steps 0" ++ newline
unfolding decimal decimal_in words
exhausted = refl

empty_chain : line_of (record { reply = reply.Error 3; path = path_shown [] }) ≡ ascii "ERROR 3" ++ newline
unfolding decimal decimal_in words
empty_chain = refl
