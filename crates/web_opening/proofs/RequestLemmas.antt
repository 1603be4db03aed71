-- From what the parser finds in a head to the verdict on the request that it is.
use Rattle.std.proofs.Common.{◌≡◌, ℕ, ◌<◌, ◌≤◌, ◌↔◌, ◌==◌, List, [], length, take, drop, codes, bytes_eq, IsTrue, refl, ap, subst, arith, inl, inr, length-append, length-take, drop_of_length-le}
use Rattle.std.proofs.lemmas.Bool.{cases_Bool, cases_eq}
use Rattle.std.proofs.lemmas.List.{length-map}
use Rattle.httparse.specs.declared.spans.HeaderSpan.{HeaderSpan}
use Rattle.httparse.specs.declared.spans.RequestSpans.{RequestSpans}
use Rattle.httparse.specs.Grammar.{RequestHead, ReadsRequest, print_request}
use Rattle.httparse.specs.Spans.{header_bytes, name_and_value, IsRequestAt, IsRequestOf}
use Rattle.web_opening.specs.declared.answers.Acceptance.{Acceptance}
use Rattle.web_opening.specs.declared.answers.Refusal.TheVariants.{BadRequest}
use Rattle.web_opening.specs.declared.answers.Verdict.{Verdict}
use Rattle.web_opening.specs.declared.answers.Verdict.TheVariants.{Accept, Refuse}
use Rattle.web_opening.specs.Head.{ends_in_empty_line}
use Rattle.web_opening.specs.LetIn.{is_let_in}
use Rattle.web_opening.specs.Request.{most_lines, Request, request_of, request_at, is_well_formed, asks_for_web_socket, IsAllowed, AcceptsWhatIsAllowed, IsVerdictOn, IsVerdictOnHead}
use Rattle.web_opening.specs.Response.{is_accepted}

-- the parser's offsets say what the head says
pub request_at_is : (head : List ℕ) (spans : List HeaderSpan) (r : RequestSpans) (h : RequestHead)
    → IsRequestAt head spans r h → request_at head spans r ≡ request_of h
request_at_is head spans r h found =
    λ i. record { method = found.method i; target = found.path i; minor = found.version i; fields = found.fields i }

-- a request that is all of the head has its length
pub whole_length : (head : List ℕ) (spans : List HeaderSpan) (r : RequestSpans) (h : RequestHead)
    → ReadsRequest head h [] → IsRequestAt head spans r h → r.len ≡ length head
whole_length head spans r h reads found = omega (arith, found.len, ap length reads.1, length-append (print_request h) [])

-- a request that has the head's length is all of it
pub all_is_read : (head : List ℕ) (spans : List HeaderSpan) (r : RequestSpans) (h : RequestHead)
    → r.len ≡ length head → IsRequestAt head spans r h → ReadsRequest head h []
all_is_read head spans r h whole found =
    let nothing : drop r.len head ≡ [] = drop_of_length-le head (omega arith) in
    subst (λ (rest : List ℕ). ReadsRequest head h rest) nothing found.reads

-- the lines of a request that was found fit the room
pub lines_fit : (head : List ℕ) (spans : List HeaderSpan) (r : RequestSpans) (h : RequestHead)
    → IsRequestAt head spans r h → length h.fields ≤ length spans
lines_fit head spans r h found =
    omega (arith, ap length found.fields, length-map (take r.headers spans) (header_bytes head), length-map h.fields name_and_value, length-take r.headers spans)

-- the verdict on a head at the front of which a request was found
pub found_is_judged : (hosts origins head : List ℕ) (spans : List HeaderSpan) (r : RequestSpans) (verdict : Verdict)
    → length spans ≤ most_lines → IsRequestOf head spans r
    → ((h : RequestHead) → ReadsRequest head h [] → length h.fields ≤ most_lines → IsRequestAt head spans r h)
    → (r.len ≡ length head → IsVerdictOn hosts origins (request_at head spans r) verdict)
    → ((r.len ≡ length head → ⊥) → verdict ≡ Refuse BadRequest)
    → IsVerdictOnHead hosts origins head verdict
found_is_judged hosts origins head spans r verdict room some found whole longer = record {
  request = λ h reads few.
      let here = found h reads few in
      subst (λ (q : Request). IsVerdictOn hosts origins q verdict) (request_at_is head spans r h here)
      (whole (whole_length head spans r h reads here));
  other = λ many.
      elim (cases_eq r.len (length head)) [
        | inl same ↦
            let more : most_lines < length some.0.fields = many some.0 (all_is_read head spans r some.0 same some.1) in
            absurd (omega (arith, more, room, lines_fit head spans r some.0 some.1))
        | inr other ↦ longer other
      ];
  accepted = λ taken.
      elim (cases_eq r.len (length head)) [
        | inl same ↦
            (some.0, all_is_read head spans r some.0 same some.1, omega (arith, room, lines_fit head spans r some.0 some.1))
        | inr other ↦ let wrong = rw (longer other) at taken in absurd (cc wrong)
      ];
}

-- the verdict on a head at the front of which none was found
pub none_is_refused : (hosts origins head : List ℕ) (verdict : Verdict)
    → ((h : RequestHead) → ReadsRequest head h [] → length h.fields ≤ most_lines → ⊥)
    → verdict ≡ Refuse BadRequest → IsVerdictOnHead hosts origins head verdict
none_is_refused hosts origins head verdict none refused = record {
  request = λ h reads few. absurd (none h reads few);
  other = λ _. refused;
  accepted = λ taken. let wrong = rw refused at taken in absurd (cc wrong);
}

-- a request that is accepted passed each test
pub accepted_is_allowed : (hosts origins : List ℕ) (request : Request) (acceptance : Acceptance)
    → IsVerdictOn hosts origins request (Accept acceptance) → IsAllowed hosts origins request
accepted_is_allowed hosts origins request acceptance verdict =
    elim (cases_Bool (request.minor == 0)) [
      | inl old ↦ let wrong = rw old at verdict in absurd (cc wrong)
      | inr version ↦
          elim (cases_Bool (is_well_formed request)) [
            | inr bad ↦ let wrong = rw (version, bad) at verdict in absurd (cc wrong)
            | inl well_formed ↦
                elim (cases_Bool (bytes_eq request.method (codes "GET"))) [
                  | inr bad ↦ let wrong = rw (version, well_formed, bad) at verdict in absurd (cc wrong)
                  | inl method ↦
                      elim (cases_Bool (is_let_in hosts origins request.fields)) [
                        | inr bad ↦ let wrong = rw (version, well_formed, method, bad) at verdict in absurd (cc wrong)
                        | inl let_in ↦
                            elim (cases_Bool (asks_for_web_socket request.fields)) [
                              | inr bad ↦ let wrong = rw (version, well_formed, method, let_in, bad) at verdict in absurd (cc wrong)
                              | inl asks ↦
                                  let answer = rw (version, well_formed, method, let_in, asks) at verdict in
                                  record {
                                    version = version;
                                    well_formed = well_formed;
                                    method = method;
                                    let_in = let_in;
                                    asks = asks;
                                    key = answer.0;
                                  }
                            ]
                      ]
                ]
          ]
    ]

-- the requests that are accepted are those that are allowed
pub accepts_requests : (hosts origins : List ℕ) (request : Request) (verdict : Verdict) → IsVerdictOn hosts origins request verdict
    → (IsTrue (is_accepted verdict) ↔ IsAllowed hosts origins request)
accepts_requests hosts origins request (Accept acceptance) verdict =
    (λ _. accepted_is_allowed hosts origins request acceptance verdict, λ _. refl)
accepts_requests hosts origins request (Refuse refusal) verdict = (
  λ accepted. absurd (cc accepted),
  λ allowed.
      let answer = rw (allowed.version, allowed.well_formed, allowed.method, allowed.let_in, allowed.asks) at verdict in
      absurd (answer.0 allowed.key),
)

pub accepts_what_is_allowed : AcceptsWhatIsAllowed
accepts_what_is_allowed hosts origins held verdict judged =
    elim (cases_Bool (ends_in_empty_line held)) [
      | inl ended ↦
          let on = rw ended at judged in (
            λ accepted.
                let found = on.accepted accepted in
                let judged_so = on.request found.0 found.1 found.2 in (
                  found.0,
                  record {
                    ended = ended;
                    reads = found.1;
                    few = found.2;
                    allowed = (accepts_requests hosts origins (request_of found.0) verdict judged_so).0 accepted;
                  },
                ),
            λ allowed.
                let judged_so = on.request allowed.0 allowed.1.reads allowed.1.few in
                (accepts_requests hosts origins (request_of allowed.0) verdict judged_so).1 allowed.1.allowed,
          )
      | inr more ↦
          let refused = rw more at judged in
          (λ accepted. let wrong = rw refused at accepted in absurd (cc wrong), λ allowed. absurd (cc (allowed.1.ended, more)))
    ]
