-- What the worked sessions write.
use Rattle.std.specs.Prelude.{ℕ, List, ◌++◌, codes}

-- that a content is no JSON (JSON-RPC 2.0, "Error object")
abbrev pub parse_error : List ℕ
parse_error = codes "Content-Length: 75\r\n\r\n"
    ++ codes "{\"error\":{\"code\":-32700,\"message\":\"parse error\"},\"id\":null,\"jsonrpc\":\"2.0\"}"

-- what is written where a text of sums is opened empty, `12` typed in and its first character taken out: the capabilities, the fault of
-- the empty text, no fault, the text, and that the server shuts down (LSP 3.17)
abbrev pub typed : List ℕ
typed = codes "Content-Length: 187\r\n\r\n"
    ++ codes "{\"id\":1,\"jsonrpc\":\"2.0\",\"result\":{\"capabilities\":{\"foldingRangeProvider\":true,"
    ++ codes "\"positionEncoding\":\"utf-16\",\"selectionRangeProvider\":true,\"textDocumentSync\":{\"change\":2,"
    ++ codes "\"openClose\":true}}}}"
    ++ codes "Content-Length: 261\r\n\r\n"
    ++ codes "{\"jsonrpc\":\"2.0\",\"method\":\"textDocument/publishDiagnostics\","
    ++ codes "\"params\":{\"diagnostics\":[{\"message\":\"unexpected end; expected NUM, LP\",\"range\":{\"end\":{\"character\":0,"
    ++ codes "\"line\":0},\"start\":{\"character\":0,\"line\":0}},\"severity\":1,\"source\":\"lrls\"}],\"uri\":\"a:x\","
    ++ codes "\"version\":1}}"
    ++ codes "Content-Length: 112\r\n\r\n"
    ++ codes "{\"jsonrpc\":\"2.0\",\"method\":\"textDocument/publishDiagnostics\",\"params\":{\"diagnostics\":[],\"uri\":\"a:x\","
    ++ codes "\"version\":2}}"
    ++ codes "Content-Length: 58\r\n\r\n"
    ++ codes "{\"id\":2,\"jsonrpc\":\"2.0\",\"result\":{\"text\":\"2\",\"version\":2}}"
    ++ codes "Content-Length: 38\r\n\r\n"
    ++ codes "{\"id\":3,\"jsonrpc\":\"2.0\",\"result\":null}"

-- what is written where memory is refused in the change: the document is lost then
abbrev pub typed_and_lost : List ℕ
typed_and_lost = codes "Content-Length: 187\r\n\r\n"
    ++ codes "{\"id\":1,\"jsonrpc\":\"2.0\",\"result\":{\"capabilities\":{\"foldingRangeProvider\":true,"
    ++ codes "\"positionEncoding\":\"utf-16\",\"selectionRangeProvider\":true,\"textDocumentSync\":{\"change\":2,"
    ++ codes "\"openClose\":true}}}}"
    ++ codes "Content-Length: 261\r\n\r\n"
    ++ codes "{\"jsonrpc\":\"2.0\",\"method\":\"textDocument/publishDiagnostics\","
    ++ codes "\"params\":{\"diagnostics\":[{\"message\":\"unexpected end; expected NUM, LP\",\"range\":{\"end\":{\"character\":0,"
    ++ codes "\"line\":0},\"start\":{\"character\":0,\"line\":0}},\"severity\":1,\"source\":\"lrls\"}],\"uri\":\"a:x\","
    ++ codes "\"version\":1}}"
    ++ codes "Content-Length: 100\r\n\r\n"
    ++ codes "{\"jsonrpc\":\"2.0\",\"method\":\"textDocument/publishDiagnostics\",\"params\":{\"diagnostics\":[],\"uri\":\"a:x\"}}"
    ++ codes "Content-Length: 103\r\n\r\n"
    ++ codes "{\"jsonrpc\":\"2.0\",\"method\":\"window/logMessage\",\"params\":{\"message\":\"document lost: no memory\","
    ++ codes "\"type\":1}}"
    ++ codes "Content-Length: 85\r\n\r\n"
    ++ codes "{\"error\":{\"code\":-32803,\"message\":\"document lost: no memory\"},\"id\":2,\"jsonrpc\":\"2.0\"}"
    ++ codes "Content-Length: 38\r\n\r\n"
    ++ codes "{\"id\":3,\"jsonrpc\":\"2.0\",\"result\":null}"
