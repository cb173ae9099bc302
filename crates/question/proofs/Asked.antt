-- What a file's question asks is what its content asks (`put_asks`); where there is none, it is told why the file can't be read
-- (`stop-says`). For search/proofs/Asked.antt, which turns an answer to the question into one to the file. The question:
-- specs/Question.antt; what a content asks: specs/Asked.antt.
use mathlib.Core.List.{List}
use mathlib.Core.Path.{◌≡◌, refl, sym, ap, ◌∙◌}
use Prim.Native.Nat.{ℕ}
use Rattle.std.specs.Prelude.{Option, Result, Ok, Err}
use Rattle.fields.specs.Answers.{number, numbered}
use Rattle.fields.specs.Fields.{Parsed, got, stop}
use Rattle.fields.specs.declared.fault.Fault.{Fault}
use Rattle.card.specs.Card.{file_p}
use Rattle.card.specs.Content.{Content, content_p}
use Rattle.card.specs.Parts.{content_of}
use Rattle.card.specs.declared.Card.{Card}
use Rattle.card.proofs.Sections.{card_read}
use Rattle.card.proofs.Values.{content_got, content_stops}
use Rattle.order.specs.Paths.{Simple}
use Rattle.reply.specs.Settles.{QualifiesBy}
use Rattle.rules.specs.declared.rules.Time.{Time}
use Rattle.question.specs.declared.Question.{Question}
use Rattle.question.specs.Asked.{places_in, roots_in}
use Rattle.question.specs.Question.{time_for, question_of, posed, places_of, roots_of}
use Rattle.question.proofs.Meaning.{places-read, qualifies_content, qualifies-rows}

-- a question asks what a content asks at a time
pub record Asks (c : Content) (time : Time) (q : Question) : Type 0 where
  pub places : places_of q ≡ places_in c
  pub budget : q.budget ≡ c.budget
  pub roots : (p : List ℕ) (r : ℕ) → Simple (places_of q) p → QualifiesBy (roots_of q) p r → QualifiesBy (roots_in c time) p r
  pub reached : (p : List ℕ) (r : ℕ) → Simple (places_of q) p → QualifiesBy (roots_in c time) p r → QualifiesBy (roots_of q) p r

-- a file says a content, of which the question asks
pub record Put-of (s : List ℕ) (t : Option Time) (q : Question) : Type 0 where
  pub content : Content
  pub end : ℕ
  pub says : content_p s ≡ got content end
  pub asks : Asks content (time_for t content.now) q

module _ (s : List ℕ) (t : Option Time) where
  put_of : (c : Card) (end : ℕ) → file_p s ≡ got c end → Put-of s t (question_of s t c)
  unfolding question_of content_of
  put_of c end k =
      let read = card_read s c end k in
      let time = time_for t c.task.now in
      record {
        content = content_of c s;
        end = end;
        says = content_got s c end k;
        asks =
            record {
              places = places-read s c end read time;
              budget = refl;
              roots = λ p r h. qualifies_content s c end read time p r (rw (places-read s c end read time) at h);
              reached = λ p r h. qualifies-rows s c end read time p r (rw (places-read s c end read time) at h);
            };
      }

  module _ (x : Result Question Fault) (is : numbered x ≡ posed s t (file_p s)) where
    pub put_asks : (q : Question) → x ≡ Ok q → Put-of s t q
    put_asks q o = by_file (file_p s) refl
      where
        by_file : (y : Parsed Card) → file_p s ≡ y → Put-of s t q
        by_file (got c end) k =
            let asked : Ok (question_of s t c) ≡ Ok q = sym (ap numbered (sym o) ∙ is ∙ ap (posed s t) k) in
            let same : question_of s t c ≡ q = cc in
            rw (← same) (put_of c end k)
        by_file (stop r) k =
            let stopped : Ok q ≡ Err r = ap numbered (sym o) ∙ is ∙ ap (posed s t) k in
            cc

    pub stop-says : (f : Fault) → x ≡ Err f → content_p s ≡ stop (number f)
    stop-says f o = by_file (file_p s) refl
      where
        by_file : (y : Parsed Card) → file_p s ≡ y → content_p s ≡ stop (number f)
        by_file (got c end) k =
            let asked : Err (number f) ≡ Ok (question_of s t c) = ap numbered (sym o) ∙ is ∙ ap (posed s t) k in
            cc
        by_file (stop r) k =
            let stopped : Err (number f) ≡ Err r = ap numbered (sym o) ∙ is ∙ ap (posed s t) k in
            let same : r ≡ number f = cc in
            content_stops s r k ∙ ap stop same
