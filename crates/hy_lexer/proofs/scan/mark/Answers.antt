use Rattle.hy_lexer.proofs.Scanning.{found_pair, found_single, found_bad}
use Rattle.hy_lexer.proofs.scan.mark.Goals as goal

pub returns-in-Some : goal.returns-in-Some
returns-in-Some c = found_pair c.args.text.now c.as_bytes-bytes.result.now _ c.as_bytes-bytes.ensures.value c.utf8.text c.requires.only c.in-Some.ensures

pub returns-in-Some-single : goal.returns-in-Some-single
returns-in-Some-single c =
    found_single c.args.text.now c.as_bytes-bytes.result.now _ c.as_bytes-bytes.ensures.value c.utf8.text c.requires.only c.requires.ascii
    c.in_default.ensures c.in-Some-single.ensures

pub returns-in-None : goal.returns-in-None
returns-in-None c =
    found_bad c.args.text.now c.as_bytes-bytes.result.now c.as_bytes-bytes.ensures.value c.utf8.text c.requires.only c.requires.ascii c.in_default.ensures
    c.in-None.ensures
