-- Cases and replies in numbers, as the code and C have them; the search's promise does not use them. What is promised: Answer.antt; that an
-- answer's two parts are an outcome's `saying` and `shown`: proofs/Says.antt.
use Rattle.std.specs.Prelude.{ℕ, List, [], Result, Ok, Err}
use Rattle.places.specs.declared.BundlePlace.{BundlePlace}
use Rattle.reply.specs.Settles.{Outcome, accepted, refused, exhausted}
use Rattle.reply.specs.Answer.{Case, unread, empty, cramped, runs}
use Rattle.reply.specs.declared.Lack.{Lack}
use Rattle.reply.specs.declared.Lack.TheVariants as lack
use Rattle.reply.specs.declared.Reply.{Reply}
use Rattle.reply.specs.declared.Reply.TheVariants as reply

-- a place of the bundle, by its number
abbrev pub placed : ℕ → BundlePlace
placed i = record { 0 = i }

-- the number of what stands in the way of a search, 0 where nothing does
abbrev pub fault_of : {A : Type 0} → Case A → ℕ
fault_of (unread r) = r
fault_of empty = 3
fault_of cramped = 10
fault_of (runs x) = 0

-- the same of what a search lacks
abbrev pub lacking : Lack → ℕ
lacking lack.Certificates = 3
lacking lack.Room = 10

abbrev pub lacked : {A : Type 0} → Result A Lack → ℕ
lacked (Ok x) = 0
lacked (Err l) = lacking l

-- an outcome's reply, and the path beside it
abbrev pub saying : Outcome → Reply
saying (accepted p r s) = reply.Accepted (record { 0 = r }) s
saying (refused s) = reply.Refused s
saying (exhausted s) = reply.Exhausted s

abbrev pub shown : Outcome → List ℕ
shown (accepted p r s) = p
shown (refused s) = []
shown (exhausted s) = []

-- the reply's number, root and steps
pub record Told : Type 0 where
  pub number : ℕ
  pub root : ℕ
  pub steps : ℕ

abbrev pub told : Reply → Told
told (reply.Accepted r s) = record { number = 0; root = r.0; steps = s }
told (reply.Refused s) = record { number = 1; root = 0; steps = s }
told (reply.Exhausted s) = record { number = 2; root = 0; steps = s }
told (reply.Error e) = record { number = e; root = 0; steps = 0 }
